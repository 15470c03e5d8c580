use Rattle.std.proofs.Common.{rules}
use Rattle.aero_gather.proofs.gather.Gather.ask.Goals as goal

pub returns-then-len-self-clause-full : goal.returns-then-len-self-clause-full
returns-then-len-self-clause-full c = search rules
