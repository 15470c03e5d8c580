use Rattle.std.proofs.Common.{◌∙◌, ap}
use Rattle.aero_verdict.specs.declared.in_order.InOrder.{InOrder}
use Rattle.aero_verdict.proofs.Gathered.{right_with_lines, stands_where_wanted, order_exact, order_there, order_lines}
use Rattle.aero_verdict.proofs.serial.Monitor+InOrder.finish_with_lines.Goals as goal

pub firsts_where-firsts-requires : goal.firsts_where-firsts-requires
firsts_where-firsts-requires c =
    let verdict = c.into_verdict-verdict.result.0 in
    let checker = c.into_verdict-verdict.result.1 in
    let transactions = c.into_transactions.ensures ∙ ap (λ (e : InOrder). e.transactions) c.into_parts-names.ensures.engine in
    let wanted = c.is_right-wanted.result in
    stands_where_wanted c.args.self.parts c.args.self.rules checker c.into_transactions.result c.into_parts-names.result.0 transactions c.into_parts-names.ensures.names verdict c.into_verdict-verdict.ensures.tells wanted
    (right_with_lines c.args.self.parts c.args.self.rules checker c.into_transactions.result c.into_parts-names.result.0 transactions c.into_parts-names.ensures.names wanted verdict c.is_right-wanted.ensures.ok) c.is_right-wanted.ensures.err

pub returns-clause-exact : goal.returns-clause-exact
returns-clause-exact c =
    let verdict = c.into_verdict-verdict.result.0 in
    let checker = c.into_verdict-verdict.result.1 in
    let transactions = c.into_transactions.ensures ∙ ap (λ (e : InOrder). e.transactions) c.into_parts-names.ensures.engine in
    let wanted = c.is_right-wanted.result in
    order_exact c.args.self.parts c.args.self.rules checker c.into_transactions.result c.into_parts-names.result.0 transactions c.into_parts-names.ensures.names verdict c.into_verdict-verdict.ensures.tells wanted
    (right_with_lines c.args.self.parts c.args.self.rules checker c.into_transactions.result c.into_parts-names.result.0 transactions c.into_parts-names.ensures.names wanted verdict c.is_right-wanted.ensures.ok) c.is_right-wanted.ensures.err
    c.firsts_where-firsts.result c.firsts_where-firsts.ensures c.is_right-wanted.ensures.ok c.lines_told.result c.lines_told.ensures.verdict c.lines_told.ensures.lines

pub returns-clause-serializable : goal.returns-clause-serializable
returns-clause-serializable c =
    let verdict = c.into_verdict-verdict.result.0 in
    let checker = c.into_verdict-verdict.result.1 in
    let transactions = c.into_transactions.ensures ∙ ap (λ (e : InOrder). e.transactions) c.into_parts-names.ensures.engine in
    let wanted = c.is_right-wanted.result in
    order_there c.args.self.parts c.args.self.rules checker c.into_transactions.result c.into_parts-names.result.0 transactions c.into_parts-names.ensures.names verdict c.into_verdict-verdict.ensures.tells wanted
    (right_with_lines c.args.self.parts c.args.self.rules checker c.into_transactions.result c.into_parts-names.result.0 transactions c.into_parts-names.ensures.names wanted verdict c.is_right-wanted.ensures.ok) c.is_right-wanted.ensures.err
    c.firsts_where-firsts.result c.firsts_where-firsts.ensures c.is_right-wanted.ensures.ok c.lines_told.result c.lines_told.ensures.verdict c.lines_told.ensures.lines

pub returns-clause-lines : goal.returns-clause-lines
returns-clause-lines c =
    let verdict = c.into_verdict-verdict.result.0 in
    let checker = c.into_verdict-verdict.result.1 in
    let transactions = c.into_transactions.ensures ∙ ap (λ (e : InOrder). e.transactions) c.into_parts-names.ensures.engine in
    let wanted = c.is_right-wanted.result in
    order_lines c.args.self.parts c.args.self.rules checker c.into_transactions.result c.into_parts-names.result.0 transactions c.into_parts-names.ensures.names verdict c.into_verdict-verdict.ensures.tells wanted
    (right_with_lines c.args.self.parts c.args.self.rules checker c.into_transactions.result c.into_parts-names.result.0 transactions c.into_parts-names.ensures.names wanted verdict c.is_right-wanted.ensures.ok) c.is_right-wanted.ensures.err
    c.firsts_where-firsts.result c.firsts_where-firsts.ensures c.is_right-wanted.ensures.ok c.lines_told.result c.lines_told.ensures.verdict c.lines_told.ensures.lines
