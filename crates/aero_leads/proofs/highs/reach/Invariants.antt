use Rattle.std.proofs.Common.{◌≡◌, ℕ, ◌+◌, ◌-◌, vec_len}
use Rattle.std.specs.Prelude.{slice_get}
use Rattle.aero_leads.specs.Highs.{high_in}
use Rattle.aero_leads.proofs.highs.reach.Given as goal

abbrev pub invariant-loop-places : goal.invariant-loop-places
invariant-loop-places l = record { same : (o : ℕ) → high_in (slice_get l.places.items o) ≡ high_in (slice_get l.initial.places.items o) }

abbrev pub decreases-loop-places : goal.decreases-loop-places
decreases-loop-places l = l.at + 1 - vec_len l.places
