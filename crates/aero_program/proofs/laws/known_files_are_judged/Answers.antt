use Rattle.aero_program.proofs.Reaching.{known_files_are_judged}
use Rattle.aero_program.proofs.laws.known_files_are_judged.Goals as goal

pub returns : goal.returns
returns g c = known_files_are_judged g.F.Opener.can_fail g.F.Opener.holds
