-- An open that was interrupted has failed.
use Rattle.std.proofs.Common.{◌<◌}
use Rattle.aero_program.proofs.input.open.Given as goal

abbrev pub invariant-loop : goal.invariant-loop
invariant-loop g l = 0 < l.counter → g.O.Opener.can_fail l.path
