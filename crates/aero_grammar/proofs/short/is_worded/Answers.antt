use Rattle.std.proofs.Common.{bit_and, sym, ap, ◌∙◌}
use Rattle.std.proofs.lemmas.Bool.{eqb-true}
use Rattle.aero_grammar.proofs.FirstWord.{word_read}
use Rattle.aero_grammar.proofs.short.is_worded.Goals as goal

pub returns : goal.returns
returns c = λ yes.
    let sign = c.args.sign in
    word_read sign.op c.args.word
    (ap (bit_and c.args.word) (sym c.requires.mask) ∙ eqb-true (bit_and c.args.word sign.mask) sign.number yes ∙ c.requires.number)
