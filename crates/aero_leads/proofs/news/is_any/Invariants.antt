use Rattle.std.proofs.Common.{◌≡◌, ℕ, ◌<◌, ◌≤◌}
use Rattle.std.specs.Prelude.{false}
use Rattle.aero_leads.specs.Seen.{seen_at}
use Rattle.aero_leads.proofs.news.is_any.Given as goal

abbrev pub invariant-loop-i : goal.invariant-loop-i
invariant-loop-i l = record { none : l.any ≡ false → (w : ℕ) → l.from ≤ w → w < l.i → seen_at l.openers w ≡ false }
