use Rattle.std.proofs.Common.{◌≡◌, ◌∙◌, List, ℕ, ap, map, subst}
use Rattle.std.specs.Prelude.{IfSome}
use Rattle.aero_model.specs.CallCounts.{seen_by}
use Rattle.aero_telling.specs.Telling.{SumsUp}
use Rattle.aero_intake.specs.PlanTerms.{options_with, terms_of}
use Rattle.aero_report.specs.Asked.{note_of}
use Rattle.aero_report.specs.Forms.{summary_line_in}
use Rattle.aero_report.specs.Options.{Options}
use Rattle.aero_program.proofs.execute.sum_up_with.Goals as goal

pub returns-clause-summed : goal.returns-clause-summed
returns-clause-summed g c = λ text is.
    let plan = c.args.plan.now in
    let counts = c.args.report.now.told.counts in
    let line : Options → List ℕ = λ options. summary_line_in plan.form options counts in
    let asked_are = c.options_with-options.ensures
    ∙ ap (λ ls. options_with (terms_of plan) (map (λ label. label.now) ls) (map note_of c.as_slice-2.result.now)) c.as_slice.ensures.value
    ∙ ap (λ ns. options_with (terms_of plan) (map (λ label. label.now) c.in-Some.names.items) (map note_of ns)) c.as_slice-2.ensures.value in
    let named = subst (λ o. IfSome o (λ names. IfSome c.args.beside.now.notes (λ notes. line (options_with (terms_of plan) (map (λ label. label.now) names.items) (map note_of notes.items)) ≡ text))) c.in-Some.is is in
    let wanted = subst (λ o. IfSome o (λ notes. line (options_with (terms_of plan) (map (λ label. label.now) c.in-Some.names.items) (map note_of notes.items)) ≡ text)) c.in-Some-notes.is named in
    subst (λ t. SumsUp t c.args.report.now.cause (seen_by g.W.Write.contents c.args.writer.now) (seen_by g.W.Write.contents c.sum_up.new.writer) c.sum_up.result)
    (ap line asked_are ∙ wanted) c.sum_up.ensures.summed

pub returns-in_default-clause-summed : goal.returns-in_default-clause-summed
returns-in_default-clause-summed g c = λ text is. c.refused_after.ensures.summed text (seen_by g.W.Write.contents c.args.writer.now)
