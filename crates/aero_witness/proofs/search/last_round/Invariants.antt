use Rattle.aero_witness.specs.Search.{unreached, IsAt}
use Rattle.aero_witness.proofs.search.last_round.Given as goal

abbrev pub invariant-loop-arrival : goal.invariant-loop-arrival
invariant-loop-arrival l = IsAt l.events l.basis l.search

abbrev pub decreases-loop-arrival : goal.decreases-loop-arrival
decreases-loop-arrival l = unreached l.search.walks.reached.items
