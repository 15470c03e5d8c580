use Rattle.std.proofs.Common.{rules}
use Rattle.aero_lines.proofs.cutter.Cutter.cut.Goals as goal

pub returns-clause-block : goal.returns-clause-block
returns-clause-block c = search rules
