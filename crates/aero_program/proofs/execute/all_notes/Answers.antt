use Rattle.std.proofs.Common.{◌∙◌, [], if◌then◌else◌, ap, map, subst, List, ℕ}
use Rattle.aero_model.specs.declared.verdict.Ending.{Ending}
use Rattle.aero_report.specs.Asked.{note_of}
use Rattle.aero_program.specs.Notes.{AreNotes, noted_of_all}
use Rattle.aero_program.specs.Traces.{came_in, input_of}
use Rattle.aero_program.proofs.execute.all_notes.Goals as goal

pub returns-in-Ok : goal.returns-in-Ok
returns-in-Ok g c =
    let words = c.args.are_words in
    let report = c.args.report.now in
    let sources = c.args.sources.now in
    let given : List (ℕ × Ending) = if c.args.long then [] else report.told.endings.items in
    let notes = map note_of c.in-Ok.notes.items in
    subst (λ faults. AreNotes g.G.Opener.holds (noted_of_all input_of came_in words sources given faults) notes) c.deref-2.ensures.value
    (subst (λ endings. AreNotes g.G.Opener.holds (noted_of_all input_of came_in words sources endings c.deref-2.result.now) notes)
    (c.noted-endings.ensures ∙ ap (λ l. if c.args.long then [] else l) c.deref.ensures.value) c.in-Ok.ensures)
