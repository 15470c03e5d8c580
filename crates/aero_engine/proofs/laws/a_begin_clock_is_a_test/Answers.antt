use Rattle.aero_engine.proofs.Rules.{begin_clock_at_most, clocked_sound, clocked_complete}
use Rattle.aero_engine.proofs.laws.a_begin_clock_is_a_test.Goals as goal

pub returns : goal.returns
returns c = λ trace n t clocks K s j ok run b last. begin_clock_at_most trace n t K clocks b (clocked_sound trace ok n clocks run) (clocked_complete trace ok n clocks run) s j last
