use Rattle.std.proofs.Common.{◌≡◌, ◌+◌, ◌-◌, ◌<◌, length, get_or, subst, arith}
use Rattle.std.proofs.lemmas.List.{get_or_default, get_or_read, take_all}
use Rattle.aero_order.proofs.Starts.{Filled, some, in_list, filled_more, in_order, each_placed}
use Rattle.aero_order.proofs.targets.Targets.fill.Goals as goal

pub overflow_sub-at : goal.overflow_sub-at
overflow_sub-at c =
    let edges = c.args.edges.now in
    let n = length c.args.starts.items in
    let starts = c.loop-e.starts.items in
    let i = c.loop-e.e-index in
    let l = c.loop-e-test.true in
    let e = get_or edges i (0, 0) in
    let within : e.0 < n = omega (arith, c.requires.from i (0, 0) l, c.args.starts.ok) in
    let read = get_or_read starts e.0 c.index.result.now (omega (arith, within, c.loop-e.invariant.len)) c.index.ensures 0 in
    omega (arith, read, some edges n starts c.loop-e.list.items i c.loop-e.invariant l e (get_or_default edges i (0, 0) e l) within)

pub index_mut-requires-in-loop-e : goal.index_mut-requires-in-loop-e
index_mut-requires-in-loop-e c =
    let edges = c.args.edges.now in
    let n = length c.args.starts.items in
    let starts = c.loop-e.starts.items in
    let list = c.loop-e.list.items in
    let i = c.loop-e.e-index in
    let l = c.loop-e-test.true in
    let e = get_or edges i (0, 0) in
    let is = get_or_default edges i (0, 0) e l in
    let within : e.0 < n = omega (arith, c.requires.from i (0, 0) l, c.args.starts.ok) in
    let read = get_or_read starts e.0 c.index.result.now (omega (arith, within, c.loop-e.invariant.len)) c.index.ensures 0 in
    omega (arith, read, some edges n starts list i c.loop-e.invariant l e is within, in_list edges n starts list i c.loop-e.invariant l e is within, c.loop-e.list.ok)

pub loop-e-preserved : goal.loop-e-preserved
loop-e-preserved c =
    let edges = c.args.edges.now in
    let n = length c.args.starts.items in
    let starts = c.loop-e.starts.items in
    let list = c.loop-e.list.items in
    let i = c.loop-e.e-index in
    let l = c.loop-e-test.true in
    let e = get_or edges i (0, 0) in
    let is = get_or_default edges i (0, 0) e l in
    let within : e.0 < n = omega (arith, c.requires.from i (0, 0) l, c.args.starts.ok) in
    let read = get_or_read starts e.0 c.index.result.now (omega (arith, within, c.loop-e.invariant.len)) c.index.ensures 0 in
    let before : (c.index.result.now - 1) + 1 ≡ get_or starts e.0 0 = omega (arith, read, some edges n starts list i c.loop-e.invariant l e is within) in
    filled_more edges n starts list i c.loop-e.invariant l e is within (c.index.result.now - 1) before

pub invariant_of-result : goal.invariant_of-result
invariant_of-result c =
    let edges = c.args.edges.now in
    let n = length c.args.starts.items in
    let starts = c.loop-e.starts.items in
    let list = c.loop-e.list.items in
    let all = subst (λ front. Filled edges front n starts list) (take_all c.loop-e.e-index edges (omega (arith, c.loop-e-test.false))) c.loop-e.invariant in
    record {
      within = λ u l.
          let r = in_order edges n starts list all u (omega (arith, l, c.loop-e.starts.ok, c.loop-e.invariant.len)) in
          (r.0, omega (arith, r.1, c.loop-e.list.ok));
    }

pub returns-clause-count : goal.returns-clause-count
returns-clause-count c = omega (arith, c.loop-e.starts.ok, c.args.starts.ok, c.loop-e.invariant.len)

pub returns-clause-each : goal.returns-clause-each
returns-clause-each c = λ u v l.
    let edges = c.args.edges.now in
    let n = length c.args.starts.items in
    let starts = c.loop-e.starts.items in
    let list = c.loop-e.list.items in
    let all = subst (λ front. Filled edges front n starts list) (take_all c.loop-e.e-index edges (omega (arith, c.loop-e-test.false))) c.loop-e.invariant in
    each_placed edges n starts list all u v (omega (arith, l, c.args.starts.ok))
