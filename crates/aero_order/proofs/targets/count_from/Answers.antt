use Rattle.std.proofs.Common.{◌+◌, ◌<◌, ◌==◌, get_or, arith}
use Rattle.std.proofs.lemmas.List.{get_or_read}
use Rattle.aero_order.proofs.Tallies.{tally_of_from, tally_below, tally_more}
use Rattle.aero_order.proofs.targets.count_from.Goals as goal

pub overflow_add-index_mut : goal.overflow_add-index_mut
overflow_add-index_mut c =
    let edges = c.args.edges.now in
    let i = c.loop-e.e-index in
    let l = c.loop-e-test.true in
    let u = (get_or edges i (0, 0)).0 in
    let within : u < c.args.count + 1 = omega (arith, c.requires i (0, 0) l) in
    let read = get_or_read c.loop-e.counts.items u c.index_mut.result.now (omega (arith, c.loop-e.counts.ok, c.loop-e.invariant.0, within)) c.index_mut.ensures.value 0 in
    omega (arith, tally_below (λ e. e.0) (λ v e. e.0 == v) tally_of_from edges i l u, read, c.loop-e.invariant.1 u within)

pub loop-e-preserved : goal.loop-e-preserved
loop-e-preserved c =
    let edges = c.args.edges.now in
    let i = c.loop-e.e-index in
    let l = c.loop-e-test.true in
    let u = (get_or edges i (0, 0)).0 in
    let within : u < c.args.count + 1 = omega (arith, c.requires i (0, 0) l) in
    let read = get_or_read c.loop-e.counts.items u c.index_mut.result.now (omega (arith, c.loop-e.counts.ok, c.loop-e.invariant.0, within)) c.index_mut.ensures.value 0 in
    (c.loop-e.invariant.0, tally_more (λ e. e.0) (λ v e. e.0 == v) tally_of_from edges i l (c.args.count + 1) c.loop-e.counts.items c.index_mut.result.now (omega (arith, c.loop-e.counts.ok, c.loop-e.invariant.0)) within read c.loop-e.invariant.1)
