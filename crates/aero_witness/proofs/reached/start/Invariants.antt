use Rattle.aero_witness.specs.Reached.{AreStarts}
use Rattle.aero_witness.proofs.reached.start.Given as goal

abbrev pub invariant-loop-f : goal.invariant-loop-f
invariant-loop-f l = AreStarts l.firsts l.first l.f-index l.reached.items
