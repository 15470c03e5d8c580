use Rattle.std.proofs.Common.{rules}
use Rattle.aero_clock.proofs.clock.Clock.raise.Goals as goal

pub returns-clause-ok : goal.returns-clause-ok
returns-clause-ok c = search rules

pub returns-clause-room : goal.returns-clause-room
returns-clause-room c = search rules
