use Rattle.std.proofs.Common.{◌∙◌, Some, subst}
use Rattle.aero_model.specs.declared.verdict.Ending.TheVariants.{Whole}
use Rattle.aero_model.specs.Terms.{Terms}
use Rattle.aero_intake.specs.Alone.{IsFoundIn, found_so}
use Rattle.aero_intake.specs.Surveys.{IsSurveyOf}
use Rattle.aero_judge.specs.Judging.{judging_of}
use Rattle.aero_intake.proofs.AloneSteps.{found_whole}
use Rattle.aero_intake.proofs.alone.SoFar.finding_of_all.Goals as goal

pub returns : goal.returns
returns c = λ before now stands.
    let terms = c.args.terms.now in
    let mid = c.judge_held.new.self in
    let k = judging_of c.judge_last.new.self.judge in
    let begun = c.into_begun-begun.result in
    let on_mid = c.judge_held.ensures.terms ∙ c.requires.on in
    let on_last = c.judge_last.ensures.terms ∙ on_mid in
    let surveyed = subst (λ (t : Terms). IsSurveyOf t.rules.labels.labels k.parts c.judge_last.new.self.survey) on_last c.in_ok-judge_last.ensures.surveyed in
    subst (λ n. IsFoundIn terms before now (found_so n Whole c.in_ok-finish.field-0 begun)) c.in_ok-judge_held.ensures.count
    (found_whole terms before now mid.intake.count k c.in_ok-finish.field-0 begun on_last
    (c.in_ok-judge_last.ensures.judged before now c.in_ok-judge_held.ensures.none_held (c.in_ok-judge_held.ensures.stands before now (Some Whole) stands))
    (c.into_begun-begun.ensures k.parts surveyed) c.in_ok-finish.ensures.finding)
