use Rattle.aero_engine.proofs.Rules.{passed_told}
use Rattle.aero_engine.proofs.laws.the_opener_is_named.Goals as goal

pub returns : goal.returns
returns c = λ trace n e ss clocks o ok run at no_end takes. passed_told trace ok n e at clocks run ss takes no_end o
