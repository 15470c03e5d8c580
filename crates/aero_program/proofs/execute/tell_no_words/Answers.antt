use Rattle.std.proofs.Common.{subst, sym}
use Rattle.aero_model.specs.CallCounts.{seen_by}
use Rattle.aero_program.specs.Executed.{TellsNoWords, TellsWord}
use Rattle.aero_program.proofs.execute.tell_no_words.Goals as goal

pub returns-in-NotUtf8 : goal.returns-in-NotUtf8
returns-in-NotUtf8 g c =
    let before = seen_by g.E.Write.contents c.args.errors.now in
    let after = seen_by g.E.Write.contents c.tell_odd_word.new.errors in
    subst (λ u. TellsNoWords u before after c.tell_odd_word.result) (sym c.in-NotUtf8.is)
    (subst (λ w. TellsWord w before after c.tell_odd_word.result) c.deref.ensures.value c.tell_odd_word.ensures)
