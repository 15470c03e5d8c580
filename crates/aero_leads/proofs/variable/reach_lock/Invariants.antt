use Rattle.std.proofs.Common.{◌+◌, ◌-◌, ◌≡◌, ℕ, vec_len}
use Rattle.std.specs.Prelude.{slice_get}
use Rattle.aero_leads.specs.Kept.{last_or_none}
use Rattle.aero_leads.proofs.variable.reach_lock.Given as goal

abbrev pub invariant-loop-releases : goal.invariant-loop-releases
invariant-loop-releases l = record { same : (m : ℕ) → last_or_none (slice_get l.releases.items m) ≡ last_or_none (slice_get l.initial.releases.items m) }

abbrev pub decreases-loop-releases : goal.decreases-loop-releases
decreases-loop-releases l = l.at + 1 - vec_len l.releases
