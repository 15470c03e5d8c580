use Rattle.aero_grammar.proofs.Joined.{reading_of-concat}
use Rattle.aero_grammar.proofs.laws.blocks_read_as_their_join.Goals as goal

pub returns : goal.returns
returns c = λ blocks are. reading_of-concat blocks are
