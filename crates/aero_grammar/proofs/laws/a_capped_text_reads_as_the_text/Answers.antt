use Rattle.aero_grammar.proofs.Joined.{reading_of-cap}
use Rattle.aero_grammar.proofs.laws.a_capped_text_reads_as_the_text.Goals as goal

pub returns : goal.returns
returns c = λ bytes. reading_of-cap bytes
