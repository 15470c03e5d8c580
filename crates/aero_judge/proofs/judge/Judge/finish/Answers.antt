use Rattle.std.proofs.Common.{◌≡◌, true, false, sym, subst}
use Rattle.std.specs.Prelude.{IfOk, IfSome, Result}
use Rattle.std.proofs.lemmas.Result.{IfOk-weaker}
use Rattle.aero_model.specs.declared.verdict.Finding.{Finding}
use Rattle.aero_model.specs.Terms.{on}
use Rattle.aero_model.specs.Verdicts.{verdict_of}
use Rattle.aero_verdict.specs.Fed.{Fed}
use Rattle.aero_verdict.specs.Laws.{HidesNothing}
use Rattle.aero_judge.specs.declared.judge.Judge.{Judge}
use Rattle.aero_judge.specs.Judging.{judging_of}
use Rattle.aero_judge.proofs.Hiding.{nothing_hidden}
use Rattle.aero_judge.proofs.judge.Judge.finish.Goals as goal

abbrev HidesOf : {E : Type 0} → Result Finding E → Fed → Type 0
HidesOf r fed = fed.rules.end ≡ true → IfOk r (λ f. IfSome (verdict_of f) (HidesNothing fed.parts fed.rules))

abbrev Hides : {E : Type 0} → Result Finding E → Judge → Type 0
Hides r judge = (judging_of judge).terms.rules.end ≡ true → IfOk r (λ f. IfSome (verdict_of f) (HidesNothing (judging_of judge).parts (judging_of judge).terms.rules))

pub returns-in-Plain-clause-hides_nothing : goal.returns-in-Plain-clause-hides_nothing
returns-in-Plain-clause-hides_nothing c =
    let fed = c.into_inner.result in
    subst (Hides c.judged.result) (sym c.in-Plain.is)
    (subst (HidesOf c.judged.result) c.into_inner.ensures (λ ends. IfOk-weaker c.judged.result _ _ (λ f is. nothing_hidden fed.parts (on fed.rules false false) f ends is) c.judged.ensures.finding))

pub returns-in-InOrder-clause-hides_nothing : goal.returns-in-InOrder-clause-hides_nothing
returns-in-InOrder-clause-hides_nothing c =
    let fed = c.into_inner-in-InOrder.result in
    subst (Hides c.ordered.result) (sym c.in-InOrder.is)
    (subst (HidesOf c.ordered.result) c.into_inner-in-InOrder.ensures (λ ends. IfOk-weaker c.ordered.result _ _ (λ f is. nothing_hidden fed.parts (on fed.rules true false) f ends is) c.ordered.ensures.finding))

pub returns-in-Explaining-clause-hides_nothing : goal.returns-in-Explaining-clause-hides_nothing
returns-in-Explaining-clause-hides_nothing c =
    let fed = c.into_inner-in-Explaining.result in
    subst (Hides c.finish_to_explain.result) (sym c.in-Explaining.is)
    (subst (HidesOf c.finish_to_explain.result) c.into_inner-in-Explaining.ensures (λ ends. IfOk-weaker c.finish_to_explain.result _ _ (λ f is. nothing_hidden fed.parts (on fed.rules false true) f ends is) c.finish_to_explain.ensures.finding))

pub returns-in-InFull-clause-hides_nothing : goal.returns-in-InFull-clause-hides_nothing
returns-in-InFull-clause-hides_nothing c =
    let fed = c.into_inner-in-InFull.result in
    subst (Hides c.finish_in_full.result) (sym c.in-InFull.is)
    (subst (HidesOf c.finish_in_full.result) c.into_inner-in-InFull.ensures (λ ends. IfOk-weaker c.finish_in_full.result _ _ (λ f is. nothing_hidden fed.parts (on fed.rules true true) f ends is) c.finish_in_full.ensures.finding))
