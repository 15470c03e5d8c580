use Rattle.std.proofs.Common.{◌≡◌, ℕ, ◌+◌, ◌-◌, vec_len}
use Rattle.std.specs.Prelude.{slice_get}
use Rattle.aero_leads.specs.Passed.{passed_in}
use Rattle.aero_leads.proofs.passed.reach.Given as goal

abbrev pub invariant-loop-places : goal.invariant-loop-places
invariant-loop-places l = record { same : (u : ℕ) → passed_in (slice_get l.places.items u) ≡ passed_in (slice_get l.initial.places.items u) }

abbrev pub decreases-loop-places : goal.decreases-loop-places
decreases-loop-places l = l.at + 1 - vec_len l.places
