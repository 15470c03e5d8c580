use Rattle.std.proofs.Common.{◌≡◌, ℕ, [], slice_index}
use Rattle.aero_order.specs.Held.{held}
use Rattle.aero_order.specs.Waiting.{one_if, is_due}
use Rattle.aero_order.proofs.order.first_free.Given as goal

abbrev pub invariant-loop-v : goal.invariant-loop-v
invariant-loop-v l = (w : ℕ) → held l.free w ≡ one_if (is_due l.v [] w (slice_index l.waiting w))
