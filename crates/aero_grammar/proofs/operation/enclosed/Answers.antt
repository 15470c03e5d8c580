use Rattle.std.proofs.Common.{arith}
use Rattle.aero_grammar.proofs.Fields.{unopened, unclosed}
use Rattle.aero_grammar.proofs.operation.enclosed.Goals as goal

pub returns-then-place-field-clause-unclosed : goal.returns-then-place-field-clause-unclosed
returns-then-place-field-clause-unclosed c = unopened c.args.field.now c.args.place c.requires.place c.if-place-field.true

pub returns-then-field-last-ne41-clause-unclosed :
    goal.returns-then-field-last-ne41-clause-unclosed
returns-then-field-last-ne41-clause-unclosed c =
    unclosed c.args.field.now c.args.place c.requires.place (omega (arith, c.requires.within, c.if-place-field.false)) c.if-field-last-ne41.true
