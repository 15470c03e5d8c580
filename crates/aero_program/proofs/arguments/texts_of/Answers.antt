use Rattle.std.proofs.Common.{List, ℕ, Err, Global, subst}
use Rattle.std.specs.Prelude.{string_bytes}
use Rattle.aero_program.specs.Arguments.{IsWordOf}
use Rattle.aero_program.proofs.Wording.{stopped_at}
use Rattle.aero_program.proofs.arguments.texts_of.Goals as goal

pub returns-in-Err-clause-unread : goal.returns-in-Err-clause-unread
returns-in-Err-clause-unread c =
    stopped_at (string_bytes {Z = Global}) (λ word. word.items) c.args.words.now c.loop-word.word-index c.word-item.result c.word-item.result c.loop-word-test.true c.word-item.is
    c.loop-word.invariant.sound c.in-Err.unread (subst (λ (bytes : List ℕ). IsWordOf (string_bytes {Z = Global}) bytes (Err c.in-Err.unread)) c.deref.ensures.value c.in-Err.ensures)
