use Rattle.std.proofs.Common.{◌∙◌, ap}
use Rattle.aero_verdict.specs.declared.in_order.InOrder.{InOrder}
use Rattle.aero_verdict.proofs.Gathered.{owned}
use Rattle.aero_verdict.proofs.serial.Monitor+InOrder.finish_in_order.Goals as goal

pub steps_in_order-requires : goal.steps_in_order-requires
steps_in_order-requires c =
    let transactions = c.into_transactions.ensures ∙ ap (λ (e : InOrder). e.transactions) c.into_parts-numbering.ensures.engine in
    (c.args.self.parts, c.args.self.rules, record { checker = c.into_verdict-verdict.result.1; transactions_are = transactions; names_are = c.into_parts-numbering.ensures.names; tells = c.into_verdict-verdict.ensures.tells })

pub returns-clause-told : goal.returns-clause-told
returns-clause-told c =
    let transactions = c.into_transactions.ensures ∙ ap (λ (e : InOrder). e.transactions) c.into_parts-numbering.ensures.engine in
    c.steps_in_order.ensures.told c.args.self.parts c.args.self.rules
    (record { checker = c.into_verdict-verdict.result.1; transactions_are = transactions; names_are = c.into_parts-numbering.ensures.names; tells = c.into_verdict-verdict.ensures.tells })

pub returns-clause-own_fault : goal.returns-clause-own_fault
returns-clause-own_fault c =
    let transactions = c.into_transactions.ensures ∙ ap (λ (e : InOrder). e.transactions) c.into_parts-numbering.ensures.engine in
    owned c.args.self.parts c.args.self.rules c.into_verdict-verdict.result.1 c.into_transactions.result c.into_parts-numbering.result.0 transactions c.into_parts-numbering.ensures.names
    c.into_verdict-verdict.result.0 c.into_verdict-verdict.ensures.tells c.steps_in_order.result c.steps_in_order.ensures.same
