use Rattle.std.proofs.Common.{◌≡◌, map, take}
use Rattle.aero_report.specs.Asked.{note_of}
use Rattle.aero_program.specs.Notes.{note_texts}
use Rattle.aero_program.proofs.notes.note_texts.Given as goal

-- the lines so far
abbrev pub invariant-loop-note : goal.invariant-loop-note
invariant-loop-note l = l.text.items ≡ note_texts l.on_terminal (map note_of (take l.note-index l.fn.notes))
