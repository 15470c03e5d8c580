use Rattle.std.proofs.Common.{◌≡◌, ◌<◌, ◌≤◌, ℕ, length, Some}
use Rattle.std.specs.Prelude.{slice_get}
use Rattle.aero_clock.specs.Pairs.{number_in}
use Rattle.aero_clock.proofs.pairs.covers.Given as goal

abbrev pub invariant-loop-j : goal.invariant-loop-j
invariant-loop-j l = record {
  within : l.at ≤ length l.pairs;
  below : (k m : ℕ) (p q : ℕ × ℕ) → k < l.at → slice_get l.pairs k ≡ Some p → l.j ≤ m → slice_get l.others m ≡ Some q → p.0 < q.0;
  so_far : (k : ℕ) (q : ℕ × ℕ) → k < l.j → slice_get l.others k ≡ Some q → 0 < number_in l.pairs q.0;
}
