use Rattle.std.proofs.Common.{ap, map}
use Rattle.aero_model.specs.CallCounts.{seen_by}
use Rattle.aero_telling.specs.Founds.{sighted}
use Rattle.aero_telling.proofs.Tellings.{summed_so}
use Rattle.aero_batch.proofs.run.run_over.Goals as goal
use Rattle.aero_intake.specs.Source.{counted}
use Rattle.aero_intake.specs.PlanTerms.{options_in, terms_of}
use Rattle.aero_report.specs.Forms.{summary_line_in}

pub returns-clause-ran : goal.returns-clause-ran
returns-clause-ran g c =
    let terms = terms_of c.args.plan.now in
    let form = c.args.plan.now.form in
    let lines = c.run_lines_over-outcome.result in
    let all = c.with_summary.result in
    summed_so terms form (summary_line_in form (options_in terms)) (map (sighted (counted g.R.Read.remaining)) c.args.sources.now)
    (map (sighted (counted g.R.Read.remaining)) c.run_lines_over-outcome.new.sources) (seen_by g.W.Write.contents c.args.writer.now)
    (seen_by g.W.Write.contents c.run_lines_over-outcome.new.writer) (seen_by g.W.Write.contents c.with_summary.new.writer)
    lines.endings.items all.endings.items lines.notables.items all.notables.items lines.counts all.counts lines.cause all.cause
    (ap (λ es. es.items) c.with_summary.ensures.endings) (ap (λ fs. fs.items) c.with_summary.ensures.notables) c.with_summary.ensures.counts
    c.run_lines_over-outcome.ensures.told c.with_summary.ensures.summed
