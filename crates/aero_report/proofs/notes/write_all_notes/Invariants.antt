use Rattle.std.proofs.Common.{◌≡◌, ◌++◌, map, take}
use Rattle.std.specs.Prelude.{flat_map}
use Rattle.json.specs.Tree.{json_tokens}
use Rattle.aero_report.specs.Asked.{note_of}
use Rattle.aero_report.specs.Json.{note_value}
use Rattle.aero_report.proofs.notes.write_all_notes.Given as goal

-- those of the notes so far
abbrev pub invariant-loop-note : goal.invariant-loop-note
invariant-loop-note l = l.out ≡ l.initial.out ++ flat_map (λ n. json_tokens (note_value n)) (map note_of (take l.note-index l.notes))
