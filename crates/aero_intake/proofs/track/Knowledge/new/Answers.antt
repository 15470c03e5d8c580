use Rattle.std.proofs.Common.{sym, subst}
use Rattle.aero_intake.specs.Surveys.{IsSurveyOf}
use Rattle.aero_intake.proofs.track.Knowledge.new.Goals as goal

pub invariant_of-result : goal.invariant_of-result
invariant_of-result c = record {
  fits = c.nothing_held.ensures.fits c.args.terms;
  counted = c.nothing_held.ensures.counted;
  survey = subst (λ rs. IsSurveyOf c.args.terms.rules.labels.labels rs c.none.result) (sym c.nothing_held.ensures.parts) (c.none.ensures c.args.terms.rules.labels.labels);
}
