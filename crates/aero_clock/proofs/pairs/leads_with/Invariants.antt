use Rattle.std.proofs.Common.{◌≡◌, ◌<◌, ◌≤◌, ℕ, get_or}
use Rattle.aero_clock.proofs.pairs.leads_with.Given as goal

abbrev pub invariant-loop-i : goal.invariant-loop-i
invariant-loop-i l = record { few : l.same ≤ l.i; all : l.same ≡ l.i → (k : ℕ) → k < l.i → (get_or l.pairs k (0, 0)).0 ≡ (get_or l.others k (0, 0)).0 }
