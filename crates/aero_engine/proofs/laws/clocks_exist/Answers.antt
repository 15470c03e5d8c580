use Rattle.aero_engine.proofs.EveryRun.{clocks_of_front}
use Rattle.aero_engine.proofs.laws.clocks_exist.Goals as goal

pub returns : goal.returns
returns c = λ trace n le. clocks_of_front trace n le
