use Rattle.std.proofs.Common.{◌∙◌, ap, subst, inl, refl, List, ℕ, Some}
use Rattle.aero_model.specs.CallCounts.{seen_by}
use Rattle.aero_program.specs.Notes.{note_at, note_text}
use Rattle.aero_program.specs.Streams.{IsTold}
use Rattle.aero_program.proofs.Tells.{is_told}
use Rattle.aero_program.proofs.execute.tell_on_line.Goals as goal

pub returns : goal.returns
returns g c =
    let before = seen_by g.E.Write.contents c.args.errors.now in
    let after = seen_by g.E.Write.contents c.tell.new.writer in
    let line = c.deref.ensures.value ∙ (c.in-Ok.ensures ∙ ap (λ (path : List ℕ). note_text c.args.on_terminal (note_at path (Some c.args.at.line) c.args.words.now)) c.as_bytes.ensures.value) in
    inl (subst (IsTold before after) line (is_told c.tell.result before after c.deref.result.now c.tell.ensures.whole c.tell.ensures.cut), refl)
