use Rattle.std.proofs.Common.{◌≡◌, ℕ, ◌<◌, ◌≤◌}
use Rattle.std.specs.Prelude.{true, false}
use Rattle.aero_leads.specs.Seen.{seen_at}
use Rattle.aero_leads.proofs.news.differ.Given as goal

abbrev pub invariant-loop-i : goal.invariant-loop-i
invariant-loop-i l = record { known : l.news ≡ false → (w : ℕ) → l.from ≤ w → w < l.i → seen_at l.theirs w ≡ true → seen_at l.mine w ≡ true }
