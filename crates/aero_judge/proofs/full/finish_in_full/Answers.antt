use Rattle.std.proofs.Common.{◌∙◌, ap, subst}
use Rattle.std.specs.Prelude.{IfOk}
use Rattle.aero_engine.specs.Given.{words_of}
use Rattle.aero_verdict.specs.Monitored.{TellsFed}
use Rattle.aero_judge.specs.declared.full.InFull.{InFull}
use Rattle.aero_judge.specs.InFull.{StandsForFull, KeepsInFull}
use Rattle.aero_judge.proofs.Opening.{owned_finding}
use Rattle.aero_judge.proofs.Together.{as_in_order, all_of_order, judged}
use Rattle.aero_judge.proofs.full.finish_in_full.Goals as goal

pub steps_in_order-requires : goal.steps_in_order-requires
steps_in_order-requires c =
    let parts = c.args.monitor.parts in
    let rules = c.args.monitor.rules in
    let checker = c.into_verdict-verdict.result.1 in
    let transactions = c.into_parts-recorder.ensures.transactions ∙ ap (λ (e : InFull). e.transactions) c.into_parts-numbering.ensures.engine in
    let tells = all_of_order rules parts checker c.into_verdict-verdict.result.0 c.into_verdict-verdict.ensures.tells in
    (parts, rules, record { checker = as_in_order checker; transactions_are = transactions; names_are = c.into_parts-numbering.ensures.names; tells = tells })

-- the record is that of the verdict
pub finding_of-requires : goal.finding_of-requires
finding_of-requires c =
    let parts = c.args.monitor.parts in
    let rules = c.args.monitor.rules in
    let checker = c.into_verdict-verdict.result.1 in
    let verdict = c.in_ok-verdict.verdict in
    let tells = subst (λ r. IfOk r (TellsFed (words_of StandsForFull KeepsInFull) rules parts checker)) c.in_ok-verdict.ensures.same c.into_verdict-verdict.ensures.tells in
    let same = c.into_parts-recorder.ensures.recorder ∙ ap (λ (e : InFull). e.recorder) c.into_parts-numbering.ensures.engine in
    (parts, rules, judged rules parts checker verdict tells c.into_verdict-verdict.ensures.readings c.into_verdict-verdict.ensures.few c.into_parts-numbering.result.0 c.into_parts-recorder.result.0 c.into_parts-numbering.ensures.names same)

pub returns-clause-finding : goal.returns-clause-finding
returns-clause-finding c =
    let parts = c.args.monitor.parts in
    let rules = c.args.monitor.rules in
    let checker = c.into_verdict-verdict.result.1 in
    let transactions = c.into_parts-recorder.ensures.transactions ∙ ap (λ (e : InFull). e.transactions) c.into_parts-numbering.ensures.engine in
    let in_order = all_of_order rules parts checker c.into_verdict-verdict.result.0 c.into_verdict-verdict.ensures.tells in
    let in_steps = c.in_ok-verdict.ensures.told parts rules (record { checker = as_in_order checker; transactions_are = transactions; names_are = c.into_parts-numbering.ensures.names; tells = in_order }) in
    let tells = subst (λ r. IfOk r (TellsFed (words_of StandsForFull KeepsInFull) rules parts checker)) c.in_ok-verdict.ensures.same c.into_verdict-verdict.ensures.tells in
    let same = c.into_parts-recorder.ensures.recorder ∙ ap (λ (e : InFull). e.recorder) c.into_parts-numbering.ensures.engine in
    let judges = judged rules parts checker c.in_ok-verdict.verdict tells c.into_verdict-verdict.ensures.readings c.into_verdict-verdict.ensures.few c.into_parts-numbering.result.0 c.into_parts-recorder.result.0 c.into_parts-numbering.ensures.names same in
    c.finding_of.ensures.finding parts rules judges in_steps

pub returns-clause-own_fault : goal.returns-clause-own_fault
returns-clause-own_fault c =
    let checker = c.into_verdict-verdict.result.1 in
    let tells = subst (λ r. IfOk r (TellsFed (words_of StandsForFull KeepsInFull) c.args.monitor.rules c.args.monitor.parts checker)) c.in_ok-verdict.ensures.same c.into_verdict-verdict.ensures.tells in
    owned_finding c.finding_of.result c.in_ok-verdict.verdict tells.on.own_fault c.finding_of.ensures.same
