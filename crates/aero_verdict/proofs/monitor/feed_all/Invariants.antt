use Rattle.std.proofs.Common.{◌≡◌, ◌++◌, take}
use Rattle.aero_verdict.proofs.monitor.feed_all.Given as goal

abbrev pub invariant-loop-part : goal.invariant-loop-part
invariant-loop-part g l = (l.monitor.rules ≡ l.fn.monitor.rules) × (l.monitor.parts ≡ l.fn.monitor.parts ++ take l.part-index l.parts)
