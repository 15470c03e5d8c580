use Rattle.std.proofs.Common.{sym, subst}
use Rattle.aero_intake.specs.Surveys.{IsSurveyOf}
use Rattle.aero_intake.proofs.track.Knowledge.add.Goals as goal

pub invariant_of-self : goal.invariant_of-self
invariant_of-self c =
    let terms = c.match-add.self-inside.terms in
    record {
      fits = c.nothing_held.ensures.fits terms;
      counted = c.nothing_held.ensures.counted;
      survey = subst (λ rs. IsSurveyOf terms.rules.labels.labels rs c.none.result) (sym c.nothing_held.ensures.parts) (c.none.ensures terms.rules.labels.labels);
    }
