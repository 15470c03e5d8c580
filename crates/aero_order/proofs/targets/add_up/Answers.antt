use Rattle.std.proofs.Common.{◌≡◌, ◌<◌, length, arith}
use Rattle.std.proofs.lemmas.List.{get_or_read}
use Rattle.aero_order.proofs.Tallies.{sum_fits, sum_next, sums_done, sums_left}
use Rattle.aero_order.proofs.targets.add_up.Goals as goal

pub overflow_add-total : goal.overflow_add-total
overflow_add-total c =
    let counts = c.args.counts.items in
    let sums = c.loop-u.sums.items in
    let u = c.loop-u.u in
    let now = c.index.result.now in
    let l : u < length counts = omega (arith, c.loop-u-test.true, c.len-u-end.ensures, c.args.counts.ok) in
    let same : length sums ≡ length counts = omega (arith, c.loop-u.invariant.len, c.loop-u.sums.ok, c.args.counts.ok) in
    let read = get_or_read sums u now (omega (arith, l, same)) c.index.ensures 0 in
    omega (arith, c.requires, sum_fits counts sums u c.loop-u.total now l same c.loop-u.invariant.total read c.loop-u.invariant.left)

pub loop-u-preserved : goal.loop-u-preserved
loop-u-preserved c =
    let counts = c.args.counts.items in
    let sums = c.loop-u.sums.items in
    let u = c.loop-u.u in
    let now = c.index.result.now in
    let l : u < length counts = omega (arith, c.loop-u-test.true, c.len-u-end.ensures, c.args.counts.ok) in
    let same : length sums ≡ length counts = omega (arith, c.loop-u.invariant.len, c.loop-u.sums.ok, c.args.counts.ok) in
    let read = get_or_read sums u now (omega (arith, l, same)) c.index.ensures 0 in
    record {
      len = c.loop-u.invariant.len;
      total = sum_next counts sums u c.loop-u.total now l same c.loop-u.invariant.total read c.loop-u.invariant.left;
      done = sums_done counts sums u c.loop-u.total now l same c.loop-u.invariant.total read c.loop-u.invariant.left c.loop-u.invariant.done;
      left = sums_left counts sums u c.loop-u.total now l same c.loop-u.invariant.total read c.loop-u.invariant.left;
    }
