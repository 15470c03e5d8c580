use Rattle.std.proofs.Common.{◌≡◌, Some, None, sym, subst}
use Rattle.std.proofs.lemmas.Result.{IfOk-weaker}
use Rattle.aero_model.specs.declared.verdict.Ending.TheVariants.{Stopped, Whole}
use Rattle.aero_intake.specs.Alone.{IsFoundIn, StandsAlone, found_so}
use Rattle.aero_judge.specs.Judging.{judging_of}
use Rattle.aero_intake.proofs.AloneSteps.{found_stopped}
use Rattle.aero_intake.proofs.alone.SoFar.finding.Goals as goal

pub returns-in_ok-finding_as_far-in-Stopped : goal.returns-in_ok-finding_as_far-in-Stopped
returns-in_ok-finding_as_far-in-Stopped c = λ before now stands.
    let terms = c.args.terms.now in
    let s = c.args.self in
    let is : c.args.ending ≡ Stopped = c.in-Stopped.is in
    let finding = c.in_ok-finding_as_far-in-Stopped.field-0 in
    subst (λ e. IsFoundIn terms before now (found_so s.intake.count e finding None)) (sym is)
    (found_stopped terms before now s.intake (judging_of s.judge) finding c.requires.on
    (subst (λ e. StandsAlone terms before now (Some e) s.intake (judging_of s.judge)) is stands) c.in_ok-finding_as_far-in-Stopped.ensures)

pub returns-in-Whole : goal.returns-in-Whole
returns-in-Whole c =
    let terms = c.args.terms.now in
    let s = c.args.self in
    let is : c.args.ending ≡ Whole = c.in-Whole.is in
    IfOk-weaker c.finding_of_all.result _ _ (λ said found before now stands.
    subst (λ e. IsFoundIn terms before now (found_so s.intake.count e said.0 said.1)) (sym is)
    (found before now (subst (λ e. StandsAlone terms before now (Some e) s.intake (judging_of s.judge)) is stands))) c.finding_of_all.ensures
