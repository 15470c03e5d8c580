use Rattle.std.proofs.Common.{◌<◌, ◌∙◌, length, take, get_or, sym, ap, subst, arith}
use Rattle.aero_grammar.specs.Meaning.{operation_of}
use Rattle.aero_grammar.specs.Short.{IsShort, word_of}
use Rattle.aero_grammar.proofs.CommonShape.{targeted_is_short}
use Rattle.aero_grammar.proofs.FirstWord.{bare_in_front, named, opened_at}
use Rattle.aero_grammar.proofs.short.enclosed.Goals as goal

pub returns : goal.returns
returns c =
    let field = c.args.field.now in
    let op = c.args.op in
    let width = c.requires.width in
    let below : length (word_of op) < length field = omega (arith, width, c.requires.longer) in
    let at = opened_at op field c.requires.word below (ap (λ k. get_or field k 0) (sym width) ∙ c.if-field-width-ne40.false) ∙ sym width in
    subst (IsShort field op) (sym c.target_in.ensures)
    (targeted_is_short field op c.args.width at c.requires.few c.if-last-width.false (ap (λ k. operation_of (take k field)) width ∙ ap operation_of c.requires.word ∙ named op)
    (bare_in_front op field c.requires.word) c.if-field-last-ne41.false)
