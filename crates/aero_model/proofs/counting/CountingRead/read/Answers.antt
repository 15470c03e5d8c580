use Rattle.std.proofs.Common.{rules}
use Rattle.aero_model.proofs.counting.CountingRead.read.Goals as goal

pub returns-in-Err-clause-faults : goal.returns-in-Err-clause-faults
returns-in-Err-clause-faults g c = search rules
