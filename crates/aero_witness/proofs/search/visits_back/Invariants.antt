use Rattle.std.specs.Prelude.{reverse}
use Rattle.aero_witness.specs.Reached.{reached_at, level_of}
use Rattle.aero_witness.proofs.Walking.{Back}
use Rattle.aero_witness.proofs.search.visits_back.Given as goal

abbrev pub invariant-loop-step : goal.invariant-loop-step
invariant-loop-step l = Back l.events l.reached l.way_back.level l.leaves l.way_back.out (reverse l.visits.items)

abbrev pub decreases-loop-step : goal.decreases-loop-step
decreases-loop-step l = level_of (reached_at l.reached l.leaves)
