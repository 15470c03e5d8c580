-- The names of files in a list, each ended by a byte 0.
use Rattle.std.specs.Prelude.{◌≡◌, ◌<◌, ◌^◌, ℕ, ◌==◌, Bool, false, true, if◌then◌else◌, List, length, Option, Some, Result, Ok, Err, ⊤, codes}
use Rattle.std.specs.Io.KnownBytes.{Consumes, IsAtEnd}
use Rattle.std.specs.List.{slice_split}
use Rattle.std.specs.Str.{bytes_eq}
use Rattle.aero_model.specs.CallCounts.{Seen}
use Rattle.aero_model.specs.Lines.{without_empty_last}
use Rattle.aero_program.specs.declared.listing.Unlisted.{Unlisted}
use Rattle.aero_program.specs.declared.listing.Unlisted.TheVariants.{Unread, TooMany, Memory}
use Rattle.aero_program.specs.declared.reason.Reason.{Reason}
use Rattle.aero_program.specs.Inputs.{Standing, Standard, Unopened, Reading, Ended, Failed, Closed, IsUntouched}

abbrev pub is_name_end : ℕ → Bool
is_name_end b = b == 0

-- The list is cut at each byte 0, and an empty last part is no name.
abbrev pub names_in : List ℕ → List (List ℕ)
names_in list = without_empty_last (slice_split is_name_end list)

-- the bytes of the list at this path, where they are known: those of standard input, where it is `-`, and else those of which `known` says that a file has them that is opened there
abbrev pub list_given : (known : List ℕ → Option (List ℕ)) → (path : List ℕ) → (given : Option (List ℕ)) → Option (List ℕ)
list_given known path given = if bytes_eq path (codes "-") then given else known path

-- the list is all that its reader had, which has these bytes
pub record IsWhole (given : Option (List ℕ)) (list : List ℕ) : Type 0 where
  pub left : Option (List ℕ)
  pub came : Consumes given left list
  pub ends : IsAtEnd left

-- what the reader had first has more than 65,536 names
pub record HasTooMany (given : Option (List ℕ)) : Type 0 where
  pub list : List ℕ
  pub left : Option (List ℕ)
  pub came : Consumes given left list
  pub many : 2 ^ 16 < length (names_in list)

-- whether the list at this path may fail to be opened or read: standard input, which is at `-`, may, and a file where `can_fail` says so of its path
abbrev pub MayFailListed : (can_fail : List ℕ → Type 0) → (path : List ℕ) → Type 0
MayFailListed can_fail path = bytes_eq path (codes "-") ≡ false → can_fail path

-- why a list couldn't be had: an open or a read failed, as it may, or it has too many names, or memory was refused
abbrev pub IsListFault : (may_fail : Type 0) → (given : Option (List ℕ)) → Unlisted → Type 0
IsListFault may_fail given (Unread why) = may_fail
IsListFault may_fail given TooMany = HasTooMany given
IsListFault may_fail given Memory = ⊤

-- why a list wasn't read to its end: a read failed, as it may, of whose reader this is the first reason then, or there are too many names, or memory was refused
abbrev pub IsFaultOf : (may_fail : Type 0) → (given : Option (List ℕ)) → Option Reason → Unlisted → Type 0
IsFaultOf may_fail given reason (Unread why) = may_fail × (reason ≡ Some why)
IsFaultOf may_fail given reason TooMany = HasTooMany given
IsFaultOf may_fail given reason Memory = ⊤

-- the reads of a stream from which a list was to be read: the end was found and none failed, or one failed, or none did and there were too many names
abbrev pub IsReadFor : {A : Type 0} → (before after : Seen) → Result A Unlisted → Type 0
IsReadFor before after (Ok a) = (after.faults ≡ before.faults) × (before.ends < after.ends)
IsReadFor before after (Err (Unread why)) = before.faults < after.faults
IsReadFor before after (Err TooMany) = after.faults ≡ before.faults
IsReadFor before after (Err Memory) = ⊤

-- how an input stands from which a list was to be read: standard input is that still
abbrev pub StandsAfter : {A : Type 0} → (before after : Standing) → Result A Unlisted → Type 0
StandsAfter (Standard before) after result = (stream : Seen) × (after ≡ Standard stream) × IsReadFor before stream result
StandsAfter (Unopened path left) after result = ⊤
StandsAfter (Reading left) after result = ⊤
StandsAfter Ended after result = ⊤
StandsAfter (Failed left) after result = ⊤
StandsAfter (Closed left) after result = ⊤

-- a stream was read to its end, and no read failed
abbrev pub IsReadOut : (left : Option Seen) → Type 0
IsReadOut left = (stream : Seen) × (left ≡ Some stream) × (stream.faults ≡ 0) × (0 < stream.ends)

-- How standard input is left, where a list at this path has the names: one in standard input, which is at `-`, was read to its end, and for one in a file nothing was read of it.
pub record IsLeftByList (path : List ℕ) (given : Option (List ℕ)) (left : Option Seen) : Type 0 where
  pub stream : bytes_eq path (codes "-") ≡ true → IsReadOut left
  pub file : bytes_eq path (codes "-") ≡ false → IsUntouched given left

-- how a stream is left that has no list: a read has failed, or none has and there were too many names
abbrev pub IsCutFor : Unlisted → (left : Option Seen) → Type 0
IsCutFor (Unread why) left = (stream : Seen) × (left ≡ Some stream) × (0 < stream.faults)
IsCutFor TooMany left = (stream : Seen) × (left ≡ Some stream) × (stream.faults ≡ 0)
IsCutFor Memory left = ⊤

-- nothing was read of standard input, unless memory was refused
abbrev pub IsUntouchedFor : Unlisted → (given : Option (List ℕ)) → (left : Option Seen) → Type 0
IsUntouchedFor (Unread why) given left = IsUntouched given left
IsUntouchedFor TooMany given left = IsUntouched given left
IsUntouchedFor Memory given left = ⊤

-- how standard input is left, where the list at this path couldn't be had
pub record IsLeftByFault (path : List ℕ) (given : Option (List ℕ)) (why : Unlisted) (left : Option Seen) : Type 0 where
  pub stream : bytes_eq path (codes "-") ≡ true → IsCutFor why left
  pub file : bytes_eq path (codes "-") ≡ false → IsUntouchedFor why given left
