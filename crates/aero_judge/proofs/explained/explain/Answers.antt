use Rattle.std.proofs.Common.{◌≡◌, Some, option_map, refl, sym, ◌∙◌, ap, subst}
use Rattle.std.specs.Prelude.{IfOk, IfSome}
use Rattle.aero_engine.specs.Given.{words_of}
use Rattle.aero_verdict.specs.Explained.{ShowsCertain}
use Rattle.aero_verdict.specs.Monitored.{TellsFed}
use Rattle.aero_judge.specs.Recorded.{HasRecorded, StandsForLeads}
use Rattle.aero_judge.proofs.explained.explain.Goals as goal

pub cycle_in-requires : goal.cycle_in-requires
cycle_in-requires c =
    let m = c.args.monitor.now in
    let is : m.certain ≡ Some c.in-Some.verdict.now = sym c.certain.ensures.same ∙ ap (option_map (λ v. v.now)) c.in-Some.is in
    let tells = subst (λ o. IfSome o (TellsFed (words_of StandsForLeads HasRecorded) m.rules m.parts c.checker-checker.result.now)) is c.checker-checker.ensures.tells in
    (m.parts, m.rules, record { readings = c.checker-checker.ensures.readings; few = c.checker-checker.ensures.few; checker = c.checker-checker.result.now; names = refl; engine = refl; tells = tells })

pub returns-in-Some : goal.returns-in-Some
returns-in-Some c =
    let m = c.args.monitor.now in
    let is : m.certain ≡ Some c.in-Some.verdict.now = sym c.certain.ensures.same ∙ ap (option_map (λ v. v.now)) c.in-Some.is in
    let tells = subst (λ o. IfSome o (TellsFed (words_of StandsForLeads HasRecorded) m.rules m.parts c.checker-checker.result.now)) is c.checker-checker.ensures.tells in
    subst (λ o. IfOk c.cycle_in.result (ShowsCertain o m.parts m.rules)) (sym is)
    (c.cycle_in.ensures m.parts m.rules (record { readings = c.checker-checker.ensures.readings; few = c.checker-checker.ensures.few; checker = c.checker-checker.result.now; names = refl; engine = refl; tells = tells }))
