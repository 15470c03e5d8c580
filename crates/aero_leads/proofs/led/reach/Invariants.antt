use Rattle.std.proofs.Common.{◌≡◌, ℕ, ◌+◌, ◌-◌, vec_len}
use Rattle.std.specs.Prelude.{slice_get}
use Rattle.aero_leads.specs.Listed.{followers_in}
use Rattle.aero_leads.proofs.led.reach.Given as goal

abbrev pub invariant-loop-lists : goal.invariant-loop-lists
invariant-loop-lists l = record { same : (v : ℕ) → followers_in (slice_get l.lists.items v) ≡ followers_in (slice_get l.initial.lists.items v) }

abbrev pub decreases-loop-lists : goal.decreases-loop-lists
decreases-loop-lists l = l.at + 1 - vec_len l.lists
