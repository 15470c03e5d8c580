-- How far an input has come, and what one read does to that.
use Rattle.std.specs.Prelude.{◌≡◌, ◌<◌, ◌+◌, ℕ, List, [], length, Option, None, Some, Result, Ok, Err, ⊤, Bool, true, false, IfSome, IsErr, is_err, if◌then◌else◌, string_bytes}
use Rattle.std.specs.Io.KnownBytes.{ReadConsumes}
use Rattle.aero_model.specs.CallCounts.{Seen, moves_nothing}
use Rattle.aero_program.specs.declared.input.Input.{Input}
use Rattle.aero_program.specs.declared.input.Stage.{Stage}
use Rattle.aero_program.specs.declared.input.Stage.TheVariants as stage
use Rattle.aero_program.specs.declared.reason.Reason.{Reason}
use Rattle.aero_program.specs.declared.stamp.Stamp.{Stamp}
use Rattle.aero_program.specs.Retries.{seen_within}
use Rattle.aero_program.specs.Starts.{start_bytes}

-- standard input, whose stream is seen so; a file that wasn't opened yet; a file that is open; a file whose end was found; a file that couldn't be opened or read; a file that was closed before that. What a file has left is said, where it is known.
pub data Standing : Type 0 where
  Standard : (reader : Seen) → Standing
  Unopened : (path : List ℕ) → (left : Option (List ℕ)) → Standing
  Reading : (left : Option (List ℕ)) → Standing
  Ended : Standing
  Failed : (left : Option (List ℕ)) → Standing
  Closed : (left : Option (List ℕ)) → Standing

-- a file at a path that wasn't opened yet; `known` says which bytes each file has that is opened at a path, where they are known
abbrev pub unopened : (known : List ℕ → Option (List ℕ)) → (path : List ℕ) → Standing
unopened known path = Unopened path (known path)

-- `stdin` and `file` are the words of the readers of standard input and of files for the bytes that they have left, and `known` is the opener's word
abbrev pub stage_standing : {S O F : Type 0} → (stdin : S → Option (List ℕ)) → (known : O → List ℕ → Option (List ℕ)) → (file : F → Option (List ℕ)) → Stage S O F → Standing
stage_standing stdin known file (stage.Standard reader) = Standard (seen_within stdin reader)
stage_standing stdin known file (stage.Unopened files path) = unopened (known files) (string_bytes path)
stage_standing stdin known file (stage.Reading reader stamp) = Reading (file reader)
stage_standing stdin known file (stage.Ended stamp) = Ended
stage_standing stdin known file stage.Unnamed = Failed None
stage_standing stdin known file (stage.Refused kind files path) = Failed (known files (string_bytes path.value))
stage_standing stdin known file (stage.Failed kind stamp was) = Failed (file was.value)
stage_standing stdin known file (stage.Closed stamp was) = Closed (file was.value)

abbrev pub standing_of : {S O F : Type 0} → (stdin : S → Option (List ℕ)) → (known : O → List ℕ → Option (List ℕ)) → (file : F → Option (List ℕ)) → Input S O F → Standing
standing_of stdin known file input = stage_standing stdin known file input.stage

-- the first three bytes that came, as far as they came
abbrev pub start_of : {S O F : Type 0} → Input S O F → List ℕ
start_of input = start_bytes input.start

-- why the first read that failed did
abbrev pub reason_of : {S O F : Type 0} → Input S O F → Option Reason
reason_of input = input.reason

-- the stamp that the file had when it was opened, if it was and had one
abbrev pub stage_opened : {S O F : Type 0} → Stage S O F → Option Stamp
stage_opened (stage.Standard stdin) = None
stage_opened (stage.Unopened files path) = None
stage_opened (stage.Reading file stamp) = stamp
stage_opened (stage.Ended stamp) = stamp
stage_opened stage.Unnamed = None
stage_opened (stage.Refused kind files path) = None
stage_opened (stage.Failed kind stamp was) = stamp
stage_opened (stage.Closed stamp was) = stamp

abbrev pub opened_of : {S O F : Type 0} → Input S O F → Option Stamp
opened_of input = stage_opened input.stage

-- a reader of which nothing was read
abbrev pub unread : Option (List ℕ) → Seen
unread bytes = record { bytes = bytes; faults = 0; ends = 0 }

-- standard input that has these bytes, and of which nothing was read
abbrev pub IsUntouched : (given : Option (List ℕ)) → (left : Option Seen) → Type 0
IsUntouched given left = left ≡ Some (unread given)

-- the bytes that an input has left, where they are known
abbrev pub bytes_left : Standing → Option (List ℕ)
bytes_left (Standard reader) = reader.bytes
bytes_left (Unopened path left) = left
bytes_left (Reading left) = left
bytes_left Ended = Some []
bytes_left (Failed left) = left
bytes_left (Closed left) = left

-- whether a file of it is open
abbrev pub open_in : Standing → Bool
open_in (Reading left) = true
open_in standing = false

-- whether its file was closed before its end was found or a read failed
abbrev pub closed_in : Standing → Bool
closed_in (Closed left) = true
closed_in standing = false

-- how an input stands whose file is closed, if one is open
abbrev pub shut : Standing → Standing
shut (Reading left) = Closed left
shut standing = standing

-- a read that answers as its reader did: a failure exactly where the reader failed, the end exactly where the reader found it, and else the reader's bytes
pub record AnswersAs {E : Type 0} (before after : Seen) (buffer : List ℕ) (result : Result ℕ E) : Type 0 where
  pub bytes : ReadConsumes before.bytes after.bytes result buffer
  pub faults : after.faults ≡ before.faults + (if is_err result then 1 else 0)
  pub ends : after.ends ≡ before.ends + (if moves_nothing result buffer then 1 else 0)

-- how a read of an open file into this buffer leaves it
abbrev pub Leaves : {E : Type 0} → Standing → List ℕ → Result ℕ E → Type 0
Leaves (Reading left) buffer (Ok n) = n ≡ 0 → length buffer ≡ 0
Leaves Ended buffer (Ok n) = (n ≡ 0) × (0 < length buffer)
Leaves (Failed left) buffer (Err e) = ⊤
Leaves standing buffer result = ⊥

-- how the first read of a file into this buffer leaves it: it fails, or else an open has worked, after which it was a read of an open file
abbrev pub Begins : {E : Type 0} → (can_open : Type 0) → Standing → List ℕ → Result ℕ E → Type 0
Begins can_open (Failed left) buffer result = IsErr result
Begins can_open standing buffer result = can_open × Leaves standing buffer result

-- What one read does to the stamp: the first of a file notes that of a file which was opened at its path, and no other changes it. `holds` says which bytes a file may have that was opened at a path and had a stamp.
abbrev pub OpensTo : (holds : List ℕ → Stamp → Option (List ℕ) → Type 0) → Standing → (before after : Option Stamp) → Type 0
OpensTo holds (Unopened path left) before after = IfSome after (λ stamp. (given : Option (List ℕ)) × holds path stamp given)
OpensTo holds standing before after = after ≡ before

-- One read: standard input answers as its reader does. A file is opened at the first, by an opener of which `can_open` says that an open of the path may work, and is read until its end is found, from where on each read gives 0 bytes, or until an open or a read fails, or it is closed, from where on each read fails.
abbrev pub StepsTo : {E : Type 0} → (can_open : List ℕ → Type 0) → Standing → Standing → List ℕ → Result ℕ E → Type 0
StepsTo can_open (Standard before) (Standard after) buffer result = AnswersAs before after buffer result
StepsTo can_open (Unopened path left) new buffer result = Begins (can_open path) new buffer result
StepsTo can_open (Reading left) new buffer result = Leaves new buffer result
StepsTo can_open Ended Ended buffer result = result ≡ Ok 0
StepsTo can_open (Failed before) (Failed after) buffer result = IsErr result
StepsTo can_open (Closed before) (Closed after) buffer result = IsErr result
StepsTo can_open old new buffer result = ⊥

-- whether a read may fail of an input that stands so: of standard input where its stream does, of a file that wasn't opened yet where the opener says so of its path, and of one that is open only where the opener says so of each path
abbrev pub MayFailFrom : (can_fail : List ℕ → Type 0) → Standing → Type 0
MayFailFrom can_fail (Standard reader) = ⊤
MayFailFrom can_fail (Unopened path left) = can_fail path
MayFailFrom can_fail (Reading left) = (path : List ℕ) → can_fail path
MayFailFrom can_fail Ended = ⊥
MayFailFrom can_fail (Failed left) = ⊤
MayFailFrom can_fail (Closed left) = ⊤

-- standard input, as its stream is seen, of an input that is that, and none of another
abbrev pub IsStandardOf : Standing → Option Seen → Type 0
IsStandardOf (Standard reader) given = given ≡ Some reader
IsStandardOf (Unopened path left) given = given ≡ None
IsStandardOf (Reading left) given = given ≡ None
IsStandardOf Ended given = given ≡ None
IsStandardOf (Failed left) given = given ≡ None
IsStandardOf (Closed left) given = given ≡ None
