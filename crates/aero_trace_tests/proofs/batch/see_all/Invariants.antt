use Rattle.std.proofs.Common.{◌≡◌}
use Rattle.aero_trace_tests.proofs.batch.see_all.Given as goal

abbrev pub invariant-loop-event : goal.invariant-loop-event
invariant-loop-event l = l.monitor.rules ≡ l.fn.monitor.rules
