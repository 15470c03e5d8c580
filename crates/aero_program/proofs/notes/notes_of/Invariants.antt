use Rattle.std.proofs.Common.{map, take}
use Rattle.aero_report.specs.Asked.{note_of}
use Rattle.aero_program.specs.Notes.{AreNotes, noted_of_all}
use Rattle.aero_program.specs.Traces.{came_in, input_of}
use Rattle.aero_program.proofs.notes.notes_of.Given as goal

-- the notes on the sources so far
abbrev pub invariant-loop-place : goal.invariant-loop-place
invariant-loop-place g l = AreNotes g.G.Opener.holds (noted_of_all input_of came_in l.are_words (take l.place l.sources) l.endings l.notables) (map note_of l.notes.items)
