use Rattle.aero_model.proofs.OpenCount.{open_threads}
use Rattle.aero_model.proofs.laws.the_open_blocks_are_those_of_threads.Goals as goal

pub returns : goal.returns
returns c = λ trace most few. open_threads trace most few
