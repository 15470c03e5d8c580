use Rattle.std.proofs.Common.{rules}
use Rattle.aero_names.proofs.names.Names.name.Goals as goal

pub returns : goal.returns
returns c = search rules
