use Rattle.std.proofs.Common.{sym, subst}
use Rattle.aero_judge.specs.Judging.{Judging, judging_of}
use Rattle.aero_intake.specs.Surveys.{IsSurveyOf}
use Rattle.aero_intake.proofs.alone.SoFar.new.Goals as goal

pub returns-clause-surveyed : goal.returns-clause-surveyed
returns-clause-surveyed c =
    subst (λ (j : Judging). IsSurveyOf j.terms.rules.labels.labels j.parts c.none.result) (sym c.in_ok-new-2.ensures) (c.none.ensures _)
