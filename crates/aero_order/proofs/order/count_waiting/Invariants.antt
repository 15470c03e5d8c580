use Rattle.std.proofs.Common.{◌≡◌, ◌<◌, ℕ, [], take, vec_len, slice_index}
use Rattle.aero_order.specs.Waiting.{missing_count}
use Rattle.aero_order.proofs.order.count_waiting.Given as goal

abbrev pub invariant-loop-e : goal.invariant-loop-e
invariant-loop-e l = (vec_len l.waiting ≡ l.count) × ((v : ℕ) → v < l.count → slice_index l.waiting.items v ≡ missing_count (take l.e-index l.edges) [] v)
