use Rattle.std.proofs.Common.{◌≡◌, ◌<◌, ◌+◌, ℕ, take, vec_len, slice_index}
use Rattle.aero_order.specs.Starts.{from_count}
use Rattle.aero_order.proofs.targets.count_from.Given as goal

abbrev pub invariant-loop-e : goal.invariant-loop-e
invariant-loop-e l = (vec_len l.counts ≡ l.count + 1) × ((u : ℕ) → u < l.count + 1 → slice_index l.counts.items u ≡ from_count (take l.e-index l.edges) u)
