use Rattle.std.proofs.Common.{◌≡◌, take}
use Rattle.aero_judge.specs.Swept.{set_places}
use Rattle.aero_judge.proofs.sweep.set_places.Given as goal

abbrev pub invariant-loop-i : goal.invariant-loop-i
invariant-loop-i l = record { set : l.set.items ≡ set_places (take l.i l.marks) }
