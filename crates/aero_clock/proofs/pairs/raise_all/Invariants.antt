use Rattle.std.proofs.Common.{◌≡◌, ◌<◌, ◌≤◌, ℕ, length, Some, ◌++◌, take, drop}
use Rattle.std.specs.Prelude.{slice_get}
use Rattle.aero_clock.specs.Pairs.{raised_to}
use Rattle.aero_clock.proofs.pairs.raise_all.Given as goal

abbrev pub invariant-loop-i : goal.invariant-loop-i
invariant-loop-i l = record {
  within : l.at ≤ length l.others;
  below : (k m : ℕ) (p q : ℕ × ℕ) → k < l.at → slice_get l.others k ≡ Some p → l.i ≤ m → slice_get l.initial.pairs m ≡ Some q → p.0 < q.0;
  so_far : l.pairs ≡ raised_to l.others (take l.i l.initial.pairs) ++ drop l.i l.initial.pairs;
}
