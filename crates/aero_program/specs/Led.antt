-- What an input has noted since it was made.
use Rattle.std.specs.Prelude.{◌≡◌, ◌<◌, ℕ, true, List, take, is_some, IfSome, Option, Some, None, ⊤}
use Rattle.aero_intake.specs.Source.{Place, Stream, File, Nowhere, Sight}
use Rattle.aero_program.specs.declared.input.Input.{Input}
use Rattle.aero_program.specs.declared.reason.Reason.{Reason}
use Rattle.aero_program.specs.declared.reason.Reason.TheVariants.{NotUtf8}
use Rattle.aero_program.specs.declared.stamp.Stamp.{Stamp}
use Rattle.aero_program.specs.Inputs.{Standing, Standard, Unopened, Reading, Ended, Failed, Closed, bytes_left, closed_in, open_in, opened_of, reason_of, standing_of, start_of}

-- where an input reads that was just made, and stands so
abbrev pub place_of : Standing → Place
place_of (Standard reader) = Stream
place_of (Unopened path left) = File path
place_of (Reading left) = Nowhere
place_of Ended = Nowhere
place_of (Failed left) = Nowhere
place_of (Closed left) = Nowhere

-- why an input can't be read, as far as that is known before: it has no path, since its name isn't UTF-8
abbrev pub reason_at : Place → Option Reason
reason_at Stream = None
reason_at (File path) = None
reason_at Nowhere = Some NotUtf8

-- The stamp is one of a file that was opened at the place, where there is one. `holds` says which bytes a file may have that was opened at a path and had a stamp.
abbrev pub IsOpenedAt : (holds : List ℕ → Stamp → Option (List ℕ) → Type 0) → Place → Option Stamp → Type 0
IsOpenedAt holds Stream opened = opened ≡ None
IsOpenedAt holds (File path) opened = IfSome opened (λ stamp. (given : Option (List ℕ)) × holds path stamp given)
IsOpenedAt holds Nowhere opened = opened ≡ None

-- whether a read of what an input was made for may fail: of standard input where its stream does, of a file where the opener says so of its path, and without a path it always does
abbrev pub MayFailAt : (can_fail : List ℕ → Type 0) → Place → Type 0
MayFailAt can_fail Stream = ⊤
MayFailAt can_fail (File path) = can_fail path
MayFailAt can_fail Nowhere = ⊤

-- an input of which an open or a read has failed may fail
abbrev pub HasRightlyFailed : (can_fail : List ℕ → Type 0) → Place → Standing → Type 0
HasRightlyFailed can_fail place (Standard reader) = ⊤
HasRightlyFailed can_fail place (Unopened path left) = ⊤
HasRightlyFailed can_fail place (Reading left) = ⊤
HasRightlyFailed can_fail place Ended = ⊤
HasRightlyFailed can_fail place (Failed left) = MayFailAt can_fail place
HasRightlyFailed can_fail place (Closed left) = ⊤

-- the stream of standard input was never read
abbrev pub IsUnread : Standing → Type 0
IsUnread (Standard reader) = (reader.faults ≡ 0) × (reader.ends ≡ 0)
IsUnread (Unopened path left) = ⊤
IsUnread (Reading left) = ⊤
IsUnread Ended = ⊤
IsUnread (Failed left) = ⊤
IsUnread (Closed left) = ⊤

-- it is standard input, and its stream has failed so often, and found the end so often
abbrev pub HasCounted : Standing → (faults ends : ℕ) → Type 0
HasCounted (Standard reader) faults ends = (reader.faults ≡ faults) × (reader.ends ≡ ends)
HasCounted (Unopened path left) faults ends = ⊥
HasCounted (Reading left) faults ends = ⊥
HasCounted Ended faults ends = ⊥
HasCounted (Failed left) faults ends = ⊥
HasCounted (Closed left) faults ends = ⊥

-- the same where the input was standard input at first
abbrev pub StaysStream : (first now : Standing) → (faults ends : ℕ) → Type 0
StaysStream (Standard reader) now faults ends = HasCounted now faults ends
StaysStream (Unopened path left) now faults ends = ⊤
StaysStream (Reading left) now faults ends = ⊤
StaysStream Ended now faults ends = ⊤
StaysStream (Failed left) now faults ends = ⊤
StaysStream (Closed left) now faults ends = ⊤

-- an input that wasn't opened yet stands as it did at first, and standard input was that at first
abbrev pub IsStill : (first now : Standing) → Type 0
IsStill first (Standard reader) = place_of first ≡ Stream
IsStill first (Unopened path left) = first ≡ Unopened path left
IsStill first (Reading left) = ⊤
IsStill first Ended = ⊤
IsStill first (Failed left) = ⊤
IsStill first (Closed left) = ⊤

-- The input was this at first, and by reads these bytes came from it, and so many reads failed, and found the end.
pub record IsLed {S O F : Type 0} (stdin : S → Option (List ℕ)) (known : O → List ℕ → Option (List ℕ)) (file : F → Option (List ℕ)) (can_fail : List ℕ → Type 0) (holds : List ℕ → Stamp → Option (List ℕ) → Type 0)
    (first now : Input S O F) (came : List ℕ) (faults ends : ℕ) : Type 0 where
  pub start : start_of now ≡ take 3 came
  pub reason : faults ≡ 0 → reason_of now ≡ reason_at (place_of (standing_of stdin known file first))
  pub failed : 0 < faults → is_some (reason_of now) ≡ true
  pub may : 0 < faults → MayFailAt can_fail (place_of (standing_of stdin known file first))
  pub rightly : HasRightlyFailed can_fail (place_of (standing_of stdin known file first)) (standing_of stdin known file now)
  pub stream : StaysStream (standing_of stdin known file first) (standing_of stdin known file now) faults ends
  pub opened : IsOpenedAt holds (place_of (standing_of stdin known file first)) (opened_of now)
  pub still : IsStill (standing_of stdin known file first) (standing_of stdin known file now)

-- what contracts see of an input that was this at first and gave these bytes, and so many of whose reads failed and found the end
abbrev pub sight_at : {S O F : Type 0} → (stdin : S → Option (List ℕ)) → (known : O → List ℕ → Option (List ℕ)) → (file : F → Option (List ℕ)) → (first now : Input S O F) → (given : List ℕ) → (faults ends : ℕ) → Sight
sight_at stdin known file first now given faults ends = record {
  bytes = bytes_left (standing_of stdin known file now);
  faults = faults;
  ends = ends;
  trail = Some (record { place = place_of (standing_of stdin known file first); given = given });
  is_open = open_in (standing_of stdin known file now);
  closed = closed_in (standing_of stdin known file now);
}
