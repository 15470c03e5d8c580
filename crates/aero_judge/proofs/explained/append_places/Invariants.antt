use Rattle.std.proofs.Common.{◌≡◌, ◌++◌, take}
use Rattle.std.specs.Prelude.{flat_map}
use Rattle.aero_witness.specs.Telling.{visits_of}
use Rattle.aero_verdict.specs.Explained.{visit_places}
use Rattle.aero_judge.proofs.explained.append_places.Given as goal

-- the places of the visits so far
abbrev pub invariant-loop-visit : goal.invariant-loop-visit
invariant-loop-visit l = l.places.items ≡ l.initial.places.items ++ flat_map visit_places (visits_of (take l.visit-index l.visits))
