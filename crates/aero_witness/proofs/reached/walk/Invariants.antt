use Rattle.std.proofs.Common.{◌-◌, length}
use Rattle.aero_witness.specs.Reached.{IsFront}
use Rattle.aero_witness.proofs.Walked.{Walking}
use Rattle.aero_witness.proofs.reached.walk.Given as goal

abbrev pub invariant-loop-how : goal.invariant-loop-how
invariant-loop-how l = record { walked : Walking l.basis.transactions.firsts.items l.from l.how l.fn.walks.reached.items l.walks.reached.items l.place; front : IsFront l.how.level l.walks.reached.items l.walks.front.items }

abbrev pub decreases-loop-how : goal.decreases-loop-how
decreases-loop-how l = length l.basis.transactions.firsts.items - l.place
