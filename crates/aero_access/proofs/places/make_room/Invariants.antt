use Rattle.std.proofs.Common.{◌≡◌, ◌+◌, ◌-◌, ℕ, vec_len}
use Rattle.std.specs.Prelude.{slice_get}
use Rattle.aero_access.specs.LastClocks.{flat}
use Rattle.aero_access.proofs.places.make_room.Given as goal

abbrev pub invariant-loop-kept : goal.invariant-loop-kept
invariant-loop-kept l = (n : ℕ) → flat (slice_get l.kept.items n) ≡ flat (slice_get l.initial.kept.items n)

abbrev pub decreases-loop-kept : goal.decreases-loop-kept
decreases-loop-kept l = l.at + 1 - vec_len l.kept
