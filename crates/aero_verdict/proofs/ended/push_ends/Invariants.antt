use Rattle.std.proofs.Common.{◌≡◌, ◌++◌, replicate}
use Rattle.aero_verdict.specs.Ending.{an_end}
use Rattle.aero_verdict.proofs.ended.push_ends.Given as goal

abbrev pub invariant-loop : goal.invariant-loop
invariant-loop l = l.events.items ≡ l.fn.events.items ++ replicate l.counter (l.line, an_end l.thread)
