use Rattle.std.proofs.Common.{◌≡◌, take}
use Rattle.aero_judge.specs.Swept.{items_at}
use Rattle.aero_judge.proofs.sweep.items_at.Given as goal

abbrev pub invariant-loop-place : goal.invariant-loop-place
invariant-loop-place g l = record { kept : l.kept.items ≡ items_at l.items (take l.place-index l.places) }
