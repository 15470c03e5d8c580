use Rattle.std.proofs.Common.{length, ◌-◌, ◌≡◌, ◌<◌, ◌≤◌, ℕ, Some}
use Rattle.std.specs.Prelude.{slice_get}
use Rattle.aero_clock.proofs.pairs.skip.Given as goal

abbrev pub invariant-loop-at : goal.invariant-loop-at
invariant-loop-at l = record {
  onwards : l.from ≤ l.at;
  within : l.at ≤ length l.pairs;
  below : (i : ℕ) (p : ℕ × ℕ) → i < l.at → slice_get l.pairs i ≡ Some p → p.0 < l.t;
}

abbrev pub decreases-loop-at : goal.decreases-loop-at
decreases-loop-at l = length l.pairs - l.at
