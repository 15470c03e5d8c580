use Rattle.aero_judge.specs.Records.{AreBegunTo}
use Rattle.aero_judge.proofs.opened.openings.Given as goal

-- the places of such begins so far
abbrev pub invariant-loop-place : goal.invariant-loop-place
invariant-loop-place l = AreBegunTo l.events l.place l.places.items
