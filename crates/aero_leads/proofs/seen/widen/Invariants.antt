use Rattle.std.proofs.Common.{◌≡◌, ℕ, ◌-◌, vec_len}
use Rattle.aero_leads.specs.Seen.{seen_at}
use Rattle.aero_leads.proofs.seen.widen.Given as goal

abbrev pub invariant-loop-openers : goal.invariant-loop-openers
invariant-loop-openers l = record { same : (w : ℕ) → seen_at l.openers.items w ≡ seen_at l.initial.openers.items w }

abbrev pub decreases-loop-openers : goal.decreases-loop-openers
decreases-loop-openers l = l.places - vec_len l.openers
