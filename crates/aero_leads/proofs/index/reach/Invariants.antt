use Rattle.std.proofs.Common.{◌≡◌, ℕ, ◌+◌, ◌-◌, vec_len}
use Rattle.std.specs.Prelude.{slice_get}
use Rattle.aero_leads.specs.Indexed.{place_in}
use Rattle.aero_leads.proofs.index.reach.Given as goal

abbrev pub invariant-loop-places : goal.invariant-loop-places
invariant-loop-places l = record { same : (v : ℕ) → place_in (slice_get l.places.items v) ≡ place_in (slice_get l.initial.places.items v) }

abbrev pub decreases-loop-places : goal.decreases-loop-places
decreases-loop-places l = l.at + 1 - vec_len l.places
