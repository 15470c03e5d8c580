use Rattle.std.proofs.Common.{◌-◌, vec_len}
use Rattle.aero_order.specs.Held.{held}
use Rattle.aero_order.proofs.Steps.{Between}
use Rattle.aero_order.proofs.order.least_order.Given as goal

abbrev pub invariant-loop-u : goal.invariant-loop-u
invariant-loop-u l = Between l.count l.edges l.order.items l.waiting.items (held l.free)

abbrev pub decreases-loop-u : goal.decreases-loop-u
decreases-loop-u l = l.count - vec_len l.order
