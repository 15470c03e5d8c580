use Rattle.std.proofs.Common.{◌≡◌}
use Rattle.aero_trace_tests.proofs.monitor.answers_all.Given as goal

abbrev pub invariant-loop-i : goal.invariant-loop-i
invariant-loop-i g l = l.monitor.rules ≡ l.fn.monitor.rules
