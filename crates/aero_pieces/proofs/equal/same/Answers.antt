use Rattle.std.proofs.Common.{rules}
use Rattle.aero_pieces.proofs.equal.same.Goals as goal

pub returns-then-trace-other_trace : goal.returns-then-trace-other_trace
returns-then-trace-other_trace c = search rules
