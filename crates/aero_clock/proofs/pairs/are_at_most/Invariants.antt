use Rattle.std.proofs.Common.{◌≡◌, ◌<◌, ◌≤◌, ℕ, length, Some}
use Rattle.std.specs.Prelude.{slice_get}
use Rattle.aero_clock.specs.Pairs.{number_in}
use Rattle.aero_clock.proofs.pairs.are_at_most.Given as goal

abbrev pub invariant-loop-i : goal.invariant-loop-i
invariant-loop-i l = record {
  within : l.at ≤ length l.others;
  below : (k m : ℕ) (p q : ℕ × ℕ) → k < l.at → slice_get l.others k ≡ Some p → l.i ≤ m → slice_get l.pairs m ≡ Some q → p.0 < q.0;
  so_far : (k : ℕ) (q : ℕ × ℕ) → k < l.i → slice_get l.pairs k ≡ Some q → q.1 ≤ number_in l.others q.0;
}
