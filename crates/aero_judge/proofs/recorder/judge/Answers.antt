use Rattle.std.proofs.Common.{sym, ◌∙◌, subst}
use Rattle.aero_engine.specs.Given.{Given}
use Rattle.aero_engine.specs.Judging.{IsAdmitted, ComesAfter}
use Rattle.aero_leads.specs.Standing as standing
use Rattle.aero_judge.specs.Recorded.{IsNotedNext}
use Rattle.aero_judge.proofs.Forgetting.{same_firsts, on_some_ok, recorded_next}
use Rattle.aero_judge.proofs.recorder.judge.Goals as goal

pub judge-requires : goal.judge-requires
judge-requires c =
    let same = c.in_ok-note.ensures.firsts ∙ same_firsts c.args.recorder.now c.sweep_if_due.new.recorder c.in_ok-sweep_if_due.ensures in
    subst (λ l. IsAdmitted (standing.StandsFor l) c.args.event.now c.args.admitted) (sym same) c.requires

pub returns-clause-told : goal.returns-clause-told
returns-clause-told c =
    let same = c.in_ok-note.ensures.firsts ∙ same_firsts c.args.recorder.now c.sweep_if_due.new.recorder c.in_ok-sweep_if_due.ensures in
    λ h judged judges after. c.judge.ensures h judged judges (subst (λ l. ComesAfter (standing.StandsFor l) h judged c.args.admitted) (sym same) after)

pub returns-clause-kept : goal.returns-clause-kept
returns-clause-kept c =
    let same = c.in_ok-note.ensures.firsts ∙ same_firsts c.args.recorder.now c.sweep_if_due.new.recorder c.in_ok-sweep_if_due.ensures in
    on_some_ok c.judge.result _ (λ o ok given named is.
    let g : Given = record { line = c.args.line; event = c.args.event.now; admitted = c.args.admitted; label = named } in
    recorded_next c.args.recorder.now c.sweep_if_due.new.recorder c.note.new.recorder c.judge.new.engine given g c.judge.result o ok
    c.in_ok-sweep_if_due.ensures (subst (λ l. IsNotedNext c.sweep_if_due.new.recorder c.note.new.recorder (record { line = c.args.line; event = c.args.event.now; admitted = c.args.admitted; label = l })) is c.in_ok-note.ensures.noted)
    (λ h judged judges after. c.judge.ensures h judged judges (subst (λ l. ComesAfter (standing.StandsFor l) h judged c.args.admitted) (sym same) after)))
