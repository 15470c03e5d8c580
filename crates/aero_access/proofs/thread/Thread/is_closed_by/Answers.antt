use Rattle.std.proofs.Common.{rules}
use Rattle.aero_access.proofs.thread.Thread.is_closed_by.Goals as goal

pub returns-then-is_some : goal.returns-then-is_some
returns-then-is_some c = search rules
