use Rattle.std.proofs.Common.{take, length}
use Rattle.aero_order.proofs.Starts.{Filled}
use Rattle.aero_order.proofs.targets.Targets.fill.Given as goal

abbrev pub invariant-loop-e : goal.invariant-loop-e
invariant-loop-e l = Filled l.edges (take l.e-index l.edges) (length l.fn.starts.items) l.starts.items l.list.items
