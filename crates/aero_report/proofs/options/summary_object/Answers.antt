use Rattle.std.proofs.Common.{◌++◌, ap, ◌∙◌}
use Rattle.json.specs.Tree.{json_tokens}
use Rattle.aero_report.specs.Asked.{options_of}
use Rattle.aero_report.specs.Json.{summary_value}
use Rattle.aero_report.proofs.Readable.{reads_back, summary_depth}
use Rattle.aero_report.proofs.options.summary_object.Goals as goal

pub returns-clause-reads_back : goal.returns-clause-reads_back
returns-clause-reads_back c =
    let value = summary_value (options_of c.args.options) c.args.counts.now in
    let written = c.in_ok-write_summary.ensures ∙ ap (λ ts. ts ++ json_tokens value) c.new-out.ensures in
    reads_back c.into_text.result _ value (summary_depth (options_of c.args.options) c.args.counts.now) written c.into_text.ensures.reads_back
