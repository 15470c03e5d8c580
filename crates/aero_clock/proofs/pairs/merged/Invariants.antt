use Rattle.std.proofs.Common.{◌≡◌, ◌≤◌, ◌+◌, ◌-◌, length, ◌++◌, drop}
use Rattle.aero_clock.specs.Pairs.{merge}
use Rattle.aero_clock.proofs.pairs.merged.Given as goal

abbrev pub invariant-loop-i : goal.invariant-loop-i
invariant-loop-i l = record {
  within : l.i ≤ length l.pairs;
  within_others : l.j ≤ length l.others;
  so_far : l.all.items ++ merge (drop l.i l.pairs) (drop l.j l.others) ≡ merge l.pairs l.others;
}

abbrev pub decreases-loop-i : goal.decreases-loop-i
decreases-loop-i l = (length l.pairs - l.i) + (length l.others - l.j)
