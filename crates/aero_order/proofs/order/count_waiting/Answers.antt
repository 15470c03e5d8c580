use Rattle.std.proofs.Common.{[], get_or, arith}
use Rattle.std.proofs.lemmas.List.{get_or_read}
use Rattle.aero_order.specs.Waiting.{is_missing}
use Rattle.aero_order.proofs.Tallies.{tally_of_missing, tally_below, tally_more}
use Rattle.aero_order.proofs.order.count_waiting.Goals as goal

pub overflow_add-index_mut : goal.overflow_add-index_mut
overflow_add-index_mut c =
    let edges = c.args.edges.now in
    let i = c.loop-e.e-index in
    let l = c.loop-e-test.true in
    let to = (get_or edges i (0, 0)).1 in
    let within = c.requires i (0, 0) l in
    let read = get_or_read c.loop-e.waiting.items to c.index_mut.result.now (omega (arith, c.loop-e.waiting.ok, c.loop-e.invariant.0, within)) c.index_mut.ensures.value 0 in
    omega (arith, tally_below (λ e. e.1) (is_missing []) tally_of_missing edges i l to, read, c.loop-e.invariant.1 to within)

pub loop-e-preserved : goal.loop-e-preserved
loop-e-preserved c =
    let edges = c.args.edges.now in
    let i = c.loop-e.e-index in
    let l = c.loop-e-test.true in
    let to = (get_or edges i (0, 0)).1 in
    let within = c.requires i (0, 0) l in
    let read = get_or_read c.loop-e.waiting.items to c.index_mut.result.now (omega (arith, c.loop-e.waiting.ok, c.loop-e.invariant.0, within)) c.index_mut.ensures.value 0 in
    (c.loop-e.invariant.0, tally_more (λ e. e.1) (is_missing []) tally_of_missing edges i l c.args.count c.loop-e.waiting.items c.index_mut.result.now (omega (arith, c.loop-e.waiting.ok, c.loop-e.invariant.0)) within read c.loop-e.invariant.1)
