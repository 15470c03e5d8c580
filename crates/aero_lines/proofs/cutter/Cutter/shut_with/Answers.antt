use Rattle.std.proofs.Common.{rules}
use Rattle.aero_lines.proofs.cutter.Cutter.shut_with.Goals as goal

pub returns-clause-after : goal.returns-clause-after
returns-clause-after c = search rules
