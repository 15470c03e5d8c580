use Rattle.std.proofs.Common.{◌≡◌, ◌+◌, ◌-◌, ◌≤◌, length, drop}
use Rattle.std.specs.List.{position_or_len}
use Rattle.aero_model.specs.Names.{is_bad_byte}
use Rattle.aero_faults.proofs.fields.bad_place.Given as goal

abbrev pub invariant-loop-place : goal.invariant-loop-place
invariant-loop-place l = (l.place + position_or_len is_bad_byte (drop l.place l.text) ≡ position_or_len is_bad_byte l.text) × (l.place ≤ length l.text)

abbrev pub decreases-loop-place : goal.decreases-loop-place
decreases-loop-place l = length l.text - l.place
