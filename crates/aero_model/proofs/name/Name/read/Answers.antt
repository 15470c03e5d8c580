use Rattle.std.proofs.Common.{rules}
use Rattle.aero_model.proofs.name.Name.read.Goals as goal

pub returns-then-has_barred_byte : goal.returns-then-has_barred_byte
returns-then-has_barred_byte c = search rules
