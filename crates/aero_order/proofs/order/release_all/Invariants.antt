use Rattle.std.proofs.Common.{take}
use Rattle.aero_order.specs.Held.{held}
use Rattle.aero_order.proofs.Giving.{Gives}
use Rattle.aero_order.proofs.order.release_all.Given as goal

abbrev pub invariant-loop-v : goal.invariant-loop-v
invariant-loop-v l = Gives l.targets (take l.v-index l.targets) l.fn.waiting (held l.fn.free) l.waiting (held l.free)
