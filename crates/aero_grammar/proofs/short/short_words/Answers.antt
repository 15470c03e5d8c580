use Rattle.std.proofs.Common.{take, arith, refl}
use Rattle.std.specs.Prelude.{option_copied}
use Rattle.std.proofs.lemmas.List.{length-take}
use Rattle.aero_grammar.proofs.CommonShape.{short_meaning}
use Rattle.aero_grammar.proofs.short.short_words.Goals as goal

pub returns : goal.returns
returns c =
    let line = take c.args.end c.args.text.now in
    let fields = c.in_ok-thread.ensures in
    short_meaning line c.in_ok-thread.thread.now c.in_ok-thread.field.now c.in_ok-op.op (option_copied c.in_ok-op.target)
    (omega (arith, length-take c.args.end c.args.text.now, c.requires.few)) c.requires.good fields.barred
    fields.thread (c.if-not-is_trimmed.ensures.trimmed refl) (c.if-not-is_trimmed.ensures.some refl) fields.short fields.field c.in_ok-op.ensures
