use Rattle.std.proofs.Common.{rules}
use Rattle.aero_clock.proofs.clock.Clock.copy_from.Goals as goal

pub returns-clause-ok : goal.returns-clause-ok
returns-clause-ok c = search rules
