use Rattle.std.proofs.Common.{false, refl, subst}
use Rattle.std.specs.Prelude.{IfOk}
use Rattle.aero_engine.specs.Given.{words_of}
use Rattle.aero_verdict.specs.Monitored.{TellsFed}
use Rattle.aero_judge.specs.Recorded.{HasRecorded, StandsForLeads}
use Rattle.aero_judge.proofs.Opening.{no_order, owned_finding}
use Rattle.aero_judge.proofs.opened.finish_to_explain.Goals as goal

pub finding_shown-requires : goal.finding_shown-requires
finding_shown-requires c =
    let checker = c.into_verdict-verdict.result.1 in
    let tells = subst (λ r. IfOk r (TellsFed (words_of StandsForLeads HasRecorded) c.args.monitor.rules c.args.monitor.parts checker)) c.in_ok-verdict.was c.into_verdict-verdict.ensures.tells in
    (c.args.monitor.parts, c.args.monitor.rules, record { readings = c.into_verdict-verdict.ensures.readings; few = c.into_verdict-verdict.ensures.few; checker = checker; names = refl; engine = refl; tells = tells })

pub returns-clause-finding : goal.returns-clause-finding
returns-clause-finding c =
    let checker = c.into_verdict-verdict.result.1 in
    let tells = subst (λ r. IfOk r (TellsFed (words_of StandsForLeads HasRecorded) c.args.monitor.rules c.args.monitor.parts checker)) c.in_ok-verdict.was c.into_verdict-verdict.ensures.tells in
    c.finding_shown.ensures.finding c.args.monitor.parts c.args.monitor.rules false
    (record { readings = c.into_verdict-verdict.ensures.readings; few = c.into_verdict-verdict.ensures.few; checker = checker; names = refl; engine = refl; tells = tells }) (no_order c.in_ok-verdict.verdict)

pub returns-clause-own_fault : goal.returns-clause-own_fault
returns-clause-own_fault c =
    let checker = c.into_verdict-verdict.result.1 in
    let tells = subst (λ r. IfOk r (TellsFed (words_of StandsForLeads HasRecorded) c.args.monitor.rules c.args.monitor.parts checker)) c.in_ok-verdict.was c.into_verdict-verdict.ensures.tells in
    owned_finding c.finding_shown.result c.in_ok-verdict.verdict tells.on.own_fault c.finding_shown.ensures.same
