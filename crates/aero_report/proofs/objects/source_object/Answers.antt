use Rattle.std.proofs.Common.{◌++◌, ap, ◌∙◌}
use Rattle.json.specs.Tree.{json_tokens}
use Rattle.aero_report.specs.Json.{source_value}
use Rattle.aero_report.proofs.Readable.{reads_back, source_depth}
use Rattle.aero_report.proofs.objects.source_object.Goals as goal

pub returns-clause-reads_back : goal.returns-clause-reads_back
returns-clause-reads_back c =
    let written = c.in_ok-write_source.ensures ∙ ap (λ ts. ts ++ json_tokens (source_value c.args.name.now c.args.finding.now)) c.new-out.ensures in
    reads_back c.into_text.result _ (source_value c.args.name.now c.args.finding.now) (source_depth c.args.name.now c.args.finding.now) written c.into_text.ensures.reads_back
