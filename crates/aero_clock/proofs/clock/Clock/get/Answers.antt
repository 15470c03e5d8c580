use Rattle.std.proofs.Common.{rules}
use Rattle.aero_clock.proofs.clock.Clock.get.Goals as goal

pub returns : goal.returns
returns c = search rules
