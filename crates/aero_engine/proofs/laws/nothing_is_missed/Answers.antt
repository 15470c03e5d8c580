use Rattle.aero_engine.proofs.Rules.{passed_none}
use Rattle.aero_engine.proofs.laws.nothing_is_missed.Goals as goal

pub returns : goal.returns
returns c = λ trace n clocks ok run. passed_none trace ok n clocks run
