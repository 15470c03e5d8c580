use Rattle.aero_engine.proofs.Rules.{counts_exactly, clocked_sound, clocked_complete}
use Rattle.aero_engine.proofs.laws.clocks_count_what_leads.Goals as goal

pub returns : goal.returns
returns c = λ trace n clocks s j u k ok run last pos. counts_exactly trace n clocks (clocked_sound trace ok n clocks run) (clocked_complete trace ok n clocks run) s j last u k pos
