use Rattle.aero_engine.proofs.Rules.{clocked_sound}
use Rattle.aero_engine.proofs.laws.no_event_no_count.Goals as goal

pub returns : goal.returns
returns c = λ trace n clocks s u ok run none. (clocked_sound trace ok n clocks run).at_none s u none
