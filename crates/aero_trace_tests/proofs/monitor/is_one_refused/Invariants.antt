use Rattle.std.proofs.Common.{◌≡◌}
use Rattle.aero_trace_tests.proofs.monitor.is_one_refused.Given as goal

abbrev pub invariant-loop-i : goal.invariant-loop-i
invariant-loop-i l = l.monitor.rules ≡ l.fn.monitor.rules
