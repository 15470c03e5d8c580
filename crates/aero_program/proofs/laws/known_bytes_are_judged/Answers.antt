use Rattle.aero_program.proofs.Reaching.{known_bytes_are_judged}
use Rattle.aero_program.proofs.laws.known_bytes_are_judged.Goals as goal

pub returns : goal.returns
returns c = known_bytes_are_judged
