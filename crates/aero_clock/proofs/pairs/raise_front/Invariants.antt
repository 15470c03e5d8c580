use Rattle.std.proofs.Common.{◌≡◌, ◌++◌, take, drop}
use Rattle.aero_clock.specs.Pairs.{raised_to}
use Rattle.aero_clock.proofs.pairs.raise_front.Given as goal

abbrev pub invariant-loop-i : goal.invariant-loop-i
invariant-loop-i l = l.pairs ≡ raised_to l.others (take l.i l.initial.pairs) ++ drop l.i l.initial.pairs
