-- What is told of the sources beside their lines, and the lines of it on standard error, each with the byte 10 that ends it.
use Rattle.std.specs.Prelude.{◌≡◌, ◌==◌, ◌&&◌, not, ℕ, ◌-◌, Bool, true, false, List, [], ◌∷◌, ◌++◌, length, Option, None, Some, codes, decimal, bytes_eq, flat_map, is_some, map, take, ⊤, ◌<◌, if◌then◌else◌, slice_get}
use Rattle.std.specs.List.{filter, list_all, list_any}
use Rattle.aero_grammar.specs.Reading.{malformed_line, reading_of}
use Rattle.aero_intake.specs.Begun.{begins}
use Rattle.aero_model.specs.Terms.{Rules, Terms}
use Rattle.aero_model.specs.declared.verdict.Ending.{Ending}
use Rattle.aero_model.specs.declared.verdict.Ending.TheVariants as endings
use Rattle.aero_telling.specs.declared.cause.Cause.{Cause}
use Rattle.aero_telling.specs.declared.notable.Fault.{Fault}
use Rattle.aero_telling.specs.declared.notable.Fault.TheVariants.{Malformed, IllFormed}
use Rattle.aero_telling.specs.declared.notable.FaultyLine.{FaultyLine}
use Rattle.aero_telling.specs.declared.notable.Notable.{Notable}
use Rattle.aero_telling.specs.declared.notable.Notable.TheVariants.{Faulty, Unchecked}
use Rattle.aero_faults.specs.declared.look.Look.{Look}
use Rattle.aero_faults.specs.Sentences.{line_sentence, shape_sentence}
use Rattle.aero_telling.specs.Founds.{Sighted}
use Rattle.aero_intake.specs.Source.{Trail}
use Rattle.aero_intake.specs.declared.source.SourceOf.{SourceOf}
use Rattle.aero_report.specs.Options.{Note}
use Rattle.aero_report.specs.Shown.{shown_text}
use Rattle.aero_program.specs.declared.input.Input.{Input}
use Rattle.aero_program.specs.declared.reason.Reason.{Reason}
use Rattle.aero_program.specs.declared.reason.Reason.TheVariants.{System, Unnumbered, NotUtf8}
use Rattle.aero_program.specs.declared.stamp.Stamp.{Stamp}
use Rattle.aero_program.specs.Inputs.{start_of, reason_of, opened_of}
use Rattle.aero_program.specs.Led.{IsOpenedAt, MayFailAt, reason_at}
use Rattle.aero_program.specs.Looks.{ShowsAs}
use Rattle.aero_program.specs.Reasons.{reason_words}
use Rattle.aero_program.specs.Starts.{byte_order_mark, gzip_mark}

-- what was noted of a source: its name, whether that is a FILE word, the first three bytes that came, why the first read that failed did, whether it had more bytes than a source may have that isn't long, whether there was no block to check in it, its faulty line, the stamp that its file had when it was opened, and all bytes that came
pub record Noted : Type 0 where
  pub name : List ℕ
  pub is_word : Bool
  pub start : List ℕ
  pub reason : Option Reason
  pub too_large : Bool
  pub unchecked : Bool
  pub fault : Option FaultyLine
  pub opened : Option Stamp
  pub came : List ℕ

-- whether a source whose reading ended so, after so many bytes, was too large; one that the run didn't come to was not
abbrev pub was_too_large : Option (ℕ × Ending) → Bool
was_too_large (Some (bytes, endings.TooLarge)) = true
was_too_large ending = false

-- what a run noted of a source beside its line; of one that the run didn't come to it noted nothing
abbrev pub notable_told : Option (Option Notable) → Option Notable
notable_told None = None
notable_told (Some notable) = notable

-- the faulty line of a source of which this was noted
abbrev pub faulty_in : Option Notable → Option FaultyLine
faulty_in None = None
faulty_in (Some (Faulty line)) = Some line
faulty_in (Some Unchecked) = None

-- whether there was no block to check in it
abbrev pub is_unchecked : Option Notable → Bool
is_unchecked None = false
is_unchecked (Some (Faulty line)) = false
is_unchecked (Some Unchecked) = true

abbrev pub noted_of : {R S O F : Type 0} → (input : R → Input S O F) → (came : R → List ℕ) → (are_words : Bool) → SourceOf R → (too_large : Bool) → Option Notable → Noted
noted_of input came are_words source too_large notable = record {
  name = source.name.items;
  is_word = are_words;
  start = start_of (input source.reader);
  reason = reason_of (input source.reader);
  too_large = too_large;
  unchecked = is_unchecked notable;
  fault = faulty_in notable;
  opened = opened_of (input source.reader);
  came = came source.reader;
}

-- what was noted of the sources, whose names are FILE words, or none is, whose readings ended so, and of which this was noted beside their lines, as far as the run came
abbrev pub noted_of_all : {R S O F : Type 0} → (input : R → Input S O F) → (came : R → List ℕ) → (are_words : Bool) → List (SourceOf R) → List (ℕ × Ending) → List (Option Notable) → List Noted
noted_of_all input came are_words [] endings notables = []
noted_of_all input came are_words (source ∷ more) [] [] = noted_of input came are_words source false None ∷ noted_of_all input came are_words more [] []
noted_of_all input came are_words (source ∷ more) [] (notable ∷ notables) = noted_of input came are_words source false notable ∷ noted_of_all input came are_words more [] notables
noted_of_all input came are_words (source ∷ more) (ending ∷ rest) [] = noted_of input came are_words source (was_too_large (Some ending)) None ∷ noted_of_all input came are_words more rest []
noted_of_all input came are_words (source ∷ more) (ending ∷ rest) (notable ∷ notables) = noted_of input came are_words source (was_too_large (Some ending)) notable ∷ noted_of_all input came are_words more rest notables

-- the sources were noted as too large whose readings ended so, and all as FILE words, or none
abbrev pub AreNoted : (are_words : Bool) → List (ℕ × Ending) → List Noted → Type 0
AreNoted are_words endings noted =
    (at : ℕ) (n : Noted) → slice_get noted at ≡ Some n
    → (n.too_large ≡ was_too_large (slice_get endings at)) × (n.is_word ≡ are_words)

-- What was noted of a source is of the bytes that its reader gave, and of its reads, of which so many failed, and its stamp is one of a file that was opened at its path: its first bytes, a reason exactly where a read failed or the name is no path, and all of these bytes. A read failed only where it may. `can_fail` says of which paths an open may fail, or a read of the file that it gave, and `holds` which bytes a file may have that was opened at a path and had a stamp.
pub record IsNotedFrom (can_fail : List ℕ → Type 0) (holds : List ℕ → Stamp → Option (List ℕ) → Type 0) (n : Noted) (faults : ℕ) (t : Trail) : Type 0 where
  pub start : n.start ≡ take 3 t.given
  pub reason : faults ≡ 0 → n.reason ≡ reason_at t.place
  pub failed : 0 < faults → is_some n.reason ≡ true
  pub may : 0 < faults → MayFailAt can_fail t.place
  pub opened : IsOpenedAt holds t.place n.opened
  pub came : n.came ≡ t.given

-- the same, by what a reader says of itself
abbrev pub IsNotedBy : (can_fail : List ℕ → Type 0) → (holds : List ℕ → Stamp → Option (List ℕ) → Type 0) → Noted → (faults : ℕ) → Option Trail → Type 0
IsNotedBy can_fail holds n faults None = ⊥
IsNotedBy can_fail holds n faults (Some t) = ∥ IsNotedFrom can_fail holds n faults t ∥₁

-- what was noted of each source was noted by its own reader
abbrev pub AreOwn : (can_fail : List ℕ → Type 0) → (holds : List ℕ → Stamp → Option (List ℕ) → Type 0) → List Sighted → List Noted → Type 0
AreOwn can_fail holds sources noted =
    (at : ℕ) (n : Noted) (s : Sighted) → slice_get noted at ≡ Some n → slice_get sources at ≡ Some s → IsNotedBy can_fail holds n s.reader.faults s.reader.trail

-- the sources were noted with what a run noted of them beside their lines
abbrev pub AreNotable : List (Option Notable) → List Noted → Type 0
AreNotable notables noted =
    (at : ℕ) (n : Noted) → slice_get noted at ≡ Some n
    → (n.fault ≡ faulty_in (notable_told (slice_get notables at))) × (n.unchecked ≡ is_unchecked (notable_told (slice_get notables at)))

-- bytes that others chose, as they are told: a terminal is shown no control characters of theirs
abbrev pub said_on : (terminal : Bool) → List ℕ → List ℕ
said_on terminal bytes = if terminal then shown_text bytes else bytes

-- a note on the source of this name, or on a line of it
abbrev pub note_at : (name : List ℕ) → (line : Option ℕ) → List ℕ → Note
note_at name line words = record { source = name; line = line; text = words }

abbrev pub mark_notes : List ℕ → Bool → List Note
mark_notes name true = note_at name None (codes "starts with a byte order mark, which counts as part of the first thread's name") ∷ []
mark_notes name false = []

-- whether there is no such file
abbrev pub is_missing : Reason → Bool
is_missing (System number) = number == 2
is_missing Unnumbered = false
is_missing NotUtf8 = false

-- of a FILE word `-` that names no file it is said what would be read without it
abbrev pub reason_text : (is_word : Bool) → List ℕ → Reason → List ℕ
reason_text is_word name reason =
    if is_word && (bytes_eq name (codes "-") && is_missing reason)
    then codes "No such file or directory (standard input is read if no FILE is given)"
    else reason_words reason

abbrev pub reason_notes : (is_word : Bool) → List ℕ → Option Reason → List Note
reason_notes is_word name None = []
reason_notes is_word name (Some reason) = note_at name None (reason_text is_word name reason) ∷ []

-- how a source that is too large is judged all the same
abbrev pub size_notes : List ℕ → (too_large : Bool) → List Note
size_notes name true = note_at name None (codes "over 1073741824 bytes: --long accepts inputs of any size") ∷ []
size_notes name false = []

-- that a source is serializable says nothing where there was no block to check
abbrev pub block_notes : List ℕ → (unchecked : Bool) → List Note
block_notes name true = note_at name None (codes "nothing was checked: no block begins, or each one is left out by its label") ∷ []
block_notes name false = []

-- what is told of a faulty line, by what a second look showed
abbrev pub sentence_of : Fault → Look → List ℕ
sentence_of (Malformed fault) look = line_sentence fault look
sentence_of (IllFormed fault) look = shape_sentence fault look

-- the same of a source that may have none; of one that begins as all that gzip makes it is said how to judge what is in it
abbrev pub sentence_on : (is_gzip : Bool) → Option FaultyLine → Look → List ℕ
sentence_on is_gzip None look = []
sentence_on is_gzip (Some faulty) look = if is_gzip
    then codes "the input is compressed by gzip: to judge it, run zcat FILE | aerodrome"
    else sentence_of faulty.fault look

-- what is wrong with the source's faulty line, in this sentence
abbrev pub fault_notes : List ℕ → Option FaultyLine → List ℕ → List Note
fault_notes name None sentence = []
fault_notes name (Some faulty) sentence = note_at name (Some faulty.line) sentence ∷ []

-- what was noted of a source, and what a second look at its faulty line showed
pub record Remark : Type 0 where
  pub noted : Noted
  pub look : Look

-- Each look shows what is told of it, in the file that is named as the source is and had the stamp. `holds` says which bytes a file may have that was opened at a path and had a stamp.
abbrev pub AreShown : (holds : List ℕ → Stamp → Option (List ℕ) → Type 0) → List Remark → Type 0
AreShown holds [] = ⊤
AreShown holds (remark ∷ more) = ShowsAs holds remark.noted.name remark.noted.opened remark.noted.fault remark.look × AreShown holds more

-- the notes on a source
abbrev pub note_items : Remark → List Note
note_items remark =
    let noted = remark.noted in
    let sentence = sentence_on (bytes_eq (take 2 noted.start) gzip_mark) noted.fault remark.look in
    mark_notes noted.name (bytes_eq noted.start byte_order_mark)
    ++ (reason_notes noted.is_word noted.name noted.reason ++ (size_notes noted.name noted.too_large ++ (block_notes noted.name noted.unchecked ++ fault_notes noted.name noted.fault sentence)))

-- the notes on all sources, in order
abbrev pub notes_on : List Remark → List Note
notes_on remarks = flat_map note_items remarks

-- these are the notes on sources of which this was noted
pub record AreNotes (holds : List ℕ → Stamp → Option (List ℕ) → Type 0) (noted : List Noted) (notes : List Note) : Type 0 where
  pub remarks : List Remark
  pub are : map (λ r. r.noted) remarks ≡ noted
  pub shown : AreShown holds remarks
  pub told : notes ≡ notes_on remarks

-- the line of a source on which a note is, if it is on one
abbrev pub place_text : Option ℕ → List ℕ
place_text None = []
place_text (Some line) = codes ":" ++ decimal line

-- the line of a note
abbrev pub note_text : (on_terminal : Bool) → Note → List ℕ
note_text on_terminal note =
    codes "aerodrome: " ++ said_on on_terminal note.source ++ place_text note.line ++ codes ": " ++ said_on on_terminal note.text ++ 10 ∷ []

-- the lines of notes, in order
abbrev pub note_texts : (on_terminal : Bool) → List Note → List ℕ
note_texts on_terminal notes = flat_map (note_text on_terminal) notes

abbrev pub is_whole : Ending → Bool
is_whole endings.Whole = true
is_whole endings.Broken = false
is_whole endings.TooLarge = false
is_whole endings.Stopped = false

-- whether a run that stopped for this cause, or for none, read each source to its end
abbrev pub all_read : Option Cause → List (ℕ × Ending) → Bool
all_read None endings = list_all (λ ending. is_whole ending.1) endings
all_read (Some cause) endings = false

-- whether no line of what came of the source is malformed, or one too many
abbrev pub is_sound : Rules → Noted → Bool
is_sound rules n = not (is_some (malformed_line rules.limits.lines (reading_of n.came)))

-- whether a block of what came of one of the sources begins with the label
abbrev pub begins_in_one : List Noted → List ℕ → Bool
begins_in_one noted label = list_any (λ n. begins label (reading_of n.came)) noted

-- The listed labels with which no block of any source begins, where each was read to its end, and no line of it is malformed. Else none are told: a block may begin with one behind what was read. Where sources are read no further than they must be, none are told either.
abbrev pub labels_told : Terms → Option Cause → List (ℕ × Ending) → List Noted → List (List ℕ)
labels_told terms cause endings noted =
    if not terms.stop && (all_read cause endings && list_all (is_sound terms.rules) noted)
    then filter (λ label. not (begins_in_one noted label)) terms.rules.labels.labels
    else []

abbrev pub label_line : (on_terminal : Bool) → List ℕ → List ℕ
label_line on_terminal label = codes "aerodrome: no block begins with begin(" ++ said_on on_terminal label ++ codes ")" ++ 10 ∷ []

-- the line on so many labels that have none of their own, where there are any
abbrev pub more_line : ℕ → List ℕ
more_line more = if more == 0 then [] else codes "aerodrome: no block begins with " ++ (decimal more ++ (codes " more of the labels" ++ 10 ∷ []))

-- the lines on the first ten labels, in order, and the one on the others
abbrev pub label_lines : (on_terminal : Bool) → List (List ℕ) → List ℕ
label_lines on_terminal labels = flat_map (label_line on_terminal) (take 10 labels) ++ more_line (length labels - 10)

-- notes to which those on a source were added of which this was noted
pub record GrowsBy (holds : List ℕ → Stamp → Option (List ℕ) → Type 0) (old new : List Note) (noted : Noted) : Type 0 where
  pub look : Look
  pub shown : ShowsAs holds noted.name noted.opened noted.fault look
  pub grown : new ≡ old ++ note_items (record { noted = noted; look = look })
