use Rattle.std.proofs.Common.{◌-◌, length}
use Rattle.aero_lines.proofs.Bytewise.{IsScanned}
use Rattle.aero_lines.proofs.scan.bytes_to_too_long.Given as goal

abbrev pub invariant-loop-before : goal.invariant-loop-before
invariant-loop-before l = IsScanned (length l.line) l.piece l.before l.start

abbrev pub decreases-loop-before : goal.decreases-loop-before
decreases-loop-before l = length l.piece - l.start
