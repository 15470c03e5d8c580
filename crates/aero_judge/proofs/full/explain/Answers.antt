use Rattle.std.proofs.Common.{◌≡◌, Some, option_map, refl, sym, ◌∙◌, ap, subst}
use Rattle.std.specs.Prelude.{IfOk, IfSome}
use Rattle.aero_engine.specs.Given.{words_of}
use Rattle.aero_verdict.specs.Explained.{ShowsCertain}
use Rattle.aero_verdict.specs.Monitored.{TellsFed}
use Rattle.aero_judge.specs.InFull.{StandsForFull, KeepsInFull}
use Rattle.aero_judge.proofs.Together.{judged}
use Rattle.aero_judge.proofs.full.explain.Goals as goal

pub cycle_in-requires : goal.cycle_in-requires
cycle_in-requires c =
    let m = c.args.monitor.now in
    let checker = c.checker-checker.result.now in
    let is : m.certain ≡ Some c.in-Some.verdict.now = sym c.certain.ensures.same ∙ ap (option_map (λ v. v.now)) c.in-Some.is in
    let tells = subst (λ o. IfSome o (TellsFed (words_of StandsForFull KeepsInFull) m.rules m.parts checker)) is c.checker-checker.ensures.tells in
    (m.parts, m.rules, judged m.rules m.parts checker c.in-Some.verdict.now tells c.checker-checker.ensures.readings c.checker-checker.ensures.few checker.numbering checker.engine.recorder refl refl)

pub returns-in-Some : goal.returns-in-Some
returns-in-Some c =
    let m = c.args.monitor.now in
    let checker = c.checker-checker.result.now in
    let is : m.certain ≡ Some c.in-Some.verdict.now = sym c.certain.ensures.same ∙ ap (option_map (λ v. v.now)) c.in-Some.is in
    let tells = subst (λ o. IfSome o (TellsFed (words_of StandsForFull KeepsInFull) m.rules m.parts checker)) is c.checker-checker.ensures.tells in
    subst (λ o. IfOk c.cycle_in.result (ShowsCertain o m.parts m.rules)) (sym is)
    (c.cycle_in.ensures m.parts m.rules (judged m.rules m.parts checker c.in-Some.verdict.now tells c.checker-checker.ensures.readings c.checker-checker.ensures.few checker.numbering checker.engine.recorder refl refl))
