use Rattle.std.proofs.Common.{◌-◌, ◌≡◌, ◌<◌, ◌≤◌, ℕ, length, Some}
use Rattle.std.specs.Prelude.{slice_get}
use Rattle.aero_clock.proofs.pairs.search.Given as goal

abbrev pub invariant-loop-low : goal.invariant-loop-low
invariant-loop-low l = record {
  ordered : l.low ≤ l.high;
  within : l.high ≤ length l.pairs;
  below : (i : ℕ) (p : ℕ × ℕ) → i < l.low → slice_get l.pairs i ≡ Some p → p.0 < l.t;
  above : (i : ℕ) (p : ℕ × ℕ) → l.high ≤ i → slice_get l.pairs i ≡ Some p → l.t ≤ p.0;
}

abbrev pub decreases-loop-low : goal.decreases-loop-low
decreases-loop-low l = l.high - l.low
