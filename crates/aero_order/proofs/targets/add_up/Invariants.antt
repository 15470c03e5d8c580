use Rattle.std.proofs.Common.{◌≡◌, ◌<◌, ◌≤◌, ◌+◌, ℕ, take, vec_len, slice_index}
use Rattle.std.specs.Prelude.{sum}
use Rattle.aero_order.proofs.targets.add_up.Given as goal

abbrev pub invariant-loop-u : goal.invariant-loop-u
invariant-loop-u l = record {
  len : vec_len l.sums ≡ vec_len l.fn.counts;
  total : l.total ≡ sum (take l.u l.fn.counts.items);
  done : (v : ℕ) → v < l.u → slice_index l.sums.items v ≡ sum (take (v + 1) l.fn.counts.items);
  left : (v : ℕ) → l.u ≤ v → slice_index l.sums.items v ≡ slice_index l.fn.counts.items v;
}
