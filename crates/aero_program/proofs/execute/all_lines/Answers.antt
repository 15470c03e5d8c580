use Rattle.std.proofs.Common.{◌≡◌, ◌∙◌, ◌++◌, ap, map, subst, sym}
use Rattle.std.specs.Prelude.{IfSome}
use Rattle.aero_report.specs.Asked.{note_of}
use Rattle.aero_program.specs.Notes.{label_lines, note_texts}
use Rattle.aero_program.proofs.execute.all_lines.Goals as goal

pub returns-clause-lines : goal.returns-clause-lines
returns-clause-lines c =
    let on = c.args.on_terminal in
    let lines = label_lines on (map (λ label. label.now) c.args.unused.now) in
    let told = c.in_ok-text.ensures ∙ ap (λ ns. note_texts on (map note_of ns)) c.deref.ensures.value in
    subst (λ o. IfSome o (λ notes. c.extend_from_slice.new.self.items ≡ note_texts on (map note_of notes.items) ++ lines)) (sym c.in-Some.is)
    (c.in_ok-extend_from_slice.ensures.items ∙ ap (λ l. c.in_ok-text.text.items ++ l) (c.deref-2.ensures.value ∙ c.in_ok-lines.ensures) ∙ ap (λ l. l ++ lines) told)
