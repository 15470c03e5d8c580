-- What is told of a faulty line that was looked at again, byte by byte.
use Rattle.std.specs.Prelude.{ℕ, ◌+◌, nat_lt, if◌then◌else◌, List, [], ◌++◌, flat_map, length, take, codes, decimal}
use Rattle.std.specs.List.{position_or_len}
use Rattle.std.specs.Str.Lines.{strip_carriage_return}
use Rattle.aero_report.specs.Shown.{shown_byte}
use Rattle.aero_model.specs.declared.event.Op.{Op}
use Rattle.aero_model.specs.declared.event.Op.TheVariants.{Read, Write, Acquire, Release, Fork, Join, Begin, End}
use Rattle.aero_model.specs.declared.verdict.LineFault.{LineFault}
use Rattle.aero_model.specs.declared.verdict.LineFault.TheVariants.{BadByte, UnknownOperation}
use Rattle.aero_model.specs.declared.verdict.ShapeFault.{ShapeFault}
use Rattle.aero_model.specs.declared.verdict.ShapeFault.TheVariants.{ThreadJoined}
use Rattle.aero_model.specs.Named.{Named}
use Rattle.aero_model.specs.Names.{is_bad_byte}
use Rattle.aero_grammar.specs.Meaning.{operation_field, operation_word}
use Rattle.aero_faults.specs.Searches.{target_of}
use Rattle.aero_model.specs.Words.{line_words}
use Rattle.aero_faults.specs.declared.hindrance.Hindrance.{Hindrance}
use Rattle.aero_faults.specs.declared.hindrance.Hindrance.TheVariants.{Held, Free, Acted, Forked, Joined, Itself, NoneOpen}

-- the first 200 of the bytes, and two dots where there are more
abbrev pub shown : List ℕ → List ℕ
shown bytes = flat_map shown_byte (take 200 bytes) ++ (if nat_lt 200 (length bytes) then codes ".." else [])

-- the place, from 1, of the first byte that may stand in no line
abbrev pub bad_place : List ℕ → ℕ
bad_place text = position_or_len is_bad_byte text + 1

-- what is told of a malformed line with these bytes: the byte's place, or the word that is no operation, or the line
abbrev pub line_text : LineFault → List ℕ → List ℕ
line_text BadByte line = codes "byte " ++ decimal (bad_place (strip_carriage_return line)) ++ (codes " is a control byte: " ++ shown (strip_carriage_return line))
line_text UnknownOperation line = line_words UnknownOperation ++ (codes ": " ++ shown (operation_word (operation_field (strip_carriage_return line))))
line_text fault line = line_words fault ++ (codes ": " ++ shown (strip_carriage_return line))

-- what an event does, with the blanks round it
abbrev pub verb : Op → List ℕ
verb Read = codes " reads "
verb Write = codes " writes "
verb Acquire = codes " acquires "
verb Release = codes " releases "
verb Fork = codes " forks "
verb Join = codes " joins "
verb Begin = codes " begins "
verb End = codes " ends "

-- who does what to what
abbrev pub deed_text : Named → List ℕ
deed_text e = e.thread ++ (verb e.op ++ target_of e)

-- what is told of an ill-formed event and of what stands in its way
abbrev pub hindrance_text : ShapeFault → Named → Hindrance → List ℕ
hindrance_text fault e (Held t line) = deed_text e ++ (codes ", which " ++ (t ++ (codes " holds since line " ++ decimal line)))
hindrance_text fault e Free = deed_text e ++ codes ", which nobody holds"
hindrance_text fault e (Acted line) = deed_text e ++ (codes ", which has acted on line " ++ decimal line)
hindrance_text fault e (Forked line) = deed_text e ++ (codes ", which was forked on line " ++ decimal line)
hindrance_text ThreadJoined e (Joined t line) = e.thread ++ (codes " acts, but " ++ (t ++ (codes " joined it on line " ++ decimal line)))
hindrance_text fault e (Joined t line) = deed_text e ++ (codes ", which was joined on line " ++ decimal line)
hindrance_text fault e Itself = e.thread ++ (verb e.op ++ codes "itself")
hindrance_text fault e NoneOpen = e.thread ++ codes " ends a block, but has no open block"
