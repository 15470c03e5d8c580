use Rattle.aero_grammar.proofs.FirstWord.{number_there}
use Rattle.aero_grammar.proofs.short.word_at.Goals as goal

pub returns : goal.returns
returns c =
    number_there c.args.text.now c.in_ok-bytes.bytes.now c.args.at c.from_le_bytes.result (λ i. (c.type_inv.text i).fits) c.requires c.in_ok-bytes.ensures.cases.same c.from_le_bytes.ensures
