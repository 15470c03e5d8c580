use Rattle.aero_verdict.proofs.Gathered.{right_with_order, stands_where_wanted, named_told, steps_finished}
use Rattle.aero_verdict.proofs.serial.steps_in_order.Goals as goal

pub firsts_where-firsts-requires : goal.firsts_where-firsts-requires
firsts_where-firsts-requires c =
    let parts = c.requires.0 in
    let rules = c.requires.1 in
    let has = c.requires.2 in
    let wanted = c.is_ordered-wanted.result in
    stands_where_wanted parts rules has.checker c.args.transactions c.args.numbering.now has.transactions_are has.names_are c.args.verdict has.tells wanted
    (right_with_order parts rules has.checker c.args.transactions c.args.numbering.now has.transactions_are has.names_are wanted c.args.verdict c.is_ordered-wanted.ensures.ok) c.is_ordered-wanted.ensures.err

pub steps_told-requires : goal.steps_told-requires
steps_told-requires c =
    let parts = c.requires.0 in
    let rules = c.requires.1 in
    let has = c.requires.2 in
    let wanted = c.is_ordered-wanted.result in
    named_told parts rules has.checker c.args.transactions c.args.numbering.now has.transactions_are has.names_are c.args.verdict has.tells wanted
    (right_with_order parts rules has.checker c.args.transactions c.args.numbering.now has.transactions_are has.names_are wanted c.args.verdict c.is_ordered-wanted.ensures.ok) c.is_ordered-wanted.ensures.err
    c.firsts_where-firsts.result c.firsts_where-firsts.ensures

pub returns-clause-told : goal.returns-clause-told
returns-clause-told c parts rules has =
    let wanted = c.is_ordered-wanted.result in
    steps_finished parts rules has.checker c.args.transactions c.args.numbering.now has.transactions_are has.names_are c.args.verdict has.tells wanted
    (right_with_order parts rules has.checker c.args.transactions c.args.numbering.now has.transactions_are has.names_are wanted c.args.verdict c.is_ordered-wanted.ensures.ok) c.is_ordered-wanted.ensures.err
    c.firsts_where-firsts.result c.firsts_where-firsts.ensures c.is_ordered-wanted.ensures.ok c.steps_told.result c.steps_told.ensures.verdict c.steps_told.ensures.steps
