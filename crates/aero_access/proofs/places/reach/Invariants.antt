use Rattle.std.proofs.Common.{◌≡◌, ◌+◌, ◌-◌, ℕ, vec_len}
use Rattle.std.specs.Prelude.{slice_get}
use Rattle.aero_access.specs.Table.{readers_in}
use Rattle.aero_access.proofs.places.reach.Given as goal

abbrev pub invariant-loop-reads : goal.invariant-loop-reads
invariant-loop-reads l = (n : ℕ) → readers_in (slice_get l.reads.items n) ≡ readers_in (slice_get l.initial.reads.items n)

abbrev pub decreases-loop-reads : goal.decreases-loop-reads
decreases-loop-reads l = l.at + 1 - vec_len l.reads
