use Rattle.aero_witness.proofs.Taken.{Taking}
use Rattle.aero_witness.proofs.buckets.take_from.Given as goal

abbrev pub invariant-loop-low : goal.invariant-loop-low
invariant-loop-low l = Taking l.before l.place l.head l.low l.fn.arrivals.items l.arrivals.items

abbrev pub decreases-loop-low : goal.decreases-loop-low
decreases-loop-low l = l.low
