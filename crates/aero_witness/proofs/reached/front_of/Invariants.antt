use Rattle.aero_witness.proofs.Fronts.{IsFrontTo}
use Rattle.aero_witness.proofs.reached.front_of.Given as goal

abbrev pub invariant-loop-place : goal.invariant-loop-place
invariant-loop-place l = IsFrontTo l.level l.reached l.place l.front.items
