use Rattle.std.proofs.Common.{◌≡◌, true, None}
use Rattle.aero_access.specs.Standing.{in_block_at, closed_by, led_of, threads_of, HaveSameTests}
use Rattle.aero_end.specs.Ends.{SpreadsAlong}
use Rattle.aero_end.proofs.spread.Given as goal

abbrev pub invariant-loop-i : goal.invariant-loop-i
invariant-loop-i l = record {
  spreads : SpreadsAlong l.initial.clocks l.clocks l.t (led_of l.initial.clocks l.t) l.i;
  tests : HaveSameTests l.initial.clocks l.clocks;
  inside : in_block_at l.clocks l.t ≡ true;
  closed : closed_by l.clocks ≡ None;
  threads : threads_of l.clocks ≡ threads_of l.initial.clocks;
}
