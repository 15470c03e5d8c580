use Rattle.std.proofs.Common.{◌≡◌, ◌<◌, ◌≤◌, ℕ, get_or}
use Rattle.aero_clock.proofs.pairs.are_at_most_in_place.Given as goal

abbrev pub invariant-loop-i : goal.invariant-loop-i
invariant-loop-i l = record {
  few : l.fitting ≤ l.i;
  threads : l.fitting ≡ l.i → (k : ℕ) → k < l.i → (get_or l.pairs k (0, 0)).0 ≡ (get_or l.others k (0, 0)).0;
  numbers : l.fitting ≡ l.i → (k : ℕ) → k < l.i → (get_or l.pairs k (0, 0)).1 ≤ (get_or l.others k (0, 0)).1;
}
