use Rattle.std.proofs.Common.{rules}
use Rattle.aero_model.proofs.counting.CountingWrite.write.Goals as goal

pub returns-else-has_failed-clause-faults : goal.returns-else-has_failed-clause-faults
returns-else-has_failed-clause-faults g c = search rules
