use Rattle.aero_engine.proofs.Rules.{passed_told_at_end}
use Rattle.aero_engine.proofs.laws.the_opener_is_named_at_an_end.Goals as goal

pub returns : goal.returns
returns c = λ trace n e clocks o ok run at closing. passed_told_at_end trace ok n e at clocks run closing o
