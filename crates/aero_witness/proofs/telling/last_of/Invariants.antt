use Rattle.std.proofs.Common.{drop}
use Rattle.aero_witness.specs.Telling.{visit_of, visits_of}
use Rattle.aero_witness.proofs.Following.{Walked}
use Rattle.aero_witness.proofs.telling.last_of.Given as goal

abbrev pub invariant-loop-visit : goal.invariant-loop-visit
invariant-loop-visit l = Walked l.events (visit_of l.fn.first) (visits_of l.rest) (visit_of l.last) (visits_of (drop l.visit-index l.rest))
