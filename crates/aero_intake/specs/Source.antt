-- What was read of a source.
use Rattle.std.specs.Prelude.{◌≡◌, ℕ, ◌+◌, ◌≤◌, ◌||◌, is_err, Bool, true, false, if◌then◌else◌, List, [], ◌++◌, length, take, option_map, Option, Some, None, Result, Ok, Err, ⊤}
use Rattle.std.specs.Io.KnownBytes.{Consumes, IsAtEnd}
use Rattle.aero_model.specs.declared.verdict.Ending.{Ending}
use Rattle.aero_model.specs.declared.verdict.Ending.TheVariants.{Whole, Broken, TooLarge}
use Rattle.aero_model.specs.declared.counting.Counting.{Counting}
use Rattle.aero_model.specs.CallCounts.{inner_of, faults_of, ends_of, moves_nothing}

-- where a reader reads: a stream that its maker had, the file at a path, or nowhere
pub data Place : Type 0 where
  Stream : Place
  File : (path : List ℕ) → Place
  Nowhere : Place

-- what a reader says of itself: where it reads, which no read changes, and all bytes that it has given
pub record Trail : Type 0 where
  pub place : Place
  pub given : List ℕ

-- Reads gave these bytes. A reader that says nothing of itself never does.
abbrev pub Trails : (before after : Option Trail) → List ℕ → Type 0
Trails None None bytes = ⊤
Trails None (Some after) bytes = ⊥
Trails (Some before) None bytes = ⊥
Trails (Some before) (Some after) bytes = (after.place ≡ before.place) × (after.given ≡ before.given ++ bytes)

-- what contracts see of a reader at a moment: the bytes that it has left, where they are known, how many reads have failed, how many found the end, what it says of itself, if anything, whether a file of it is open, and whether it was closed before a read failed or found the end
pub record Sight : Type 0 where
  pub bytes : Option (List ℕ)
  pub faults : ℕ
  pub ends : ℕ
  pub trail : Option Trail
  pub is_open : Bool
  pub closed : Bool

-- the same of any reader, where its calls are counted, and which opens no file by itself; `known` is its type's own word for the bytes that it has left
abbrev pub counted : {R : Type 0} → (known : R → Option (List ℕ)) → Counting R → Sight
counted known c = record { bytes = known (inner_of c); faults = faults_of c; ends = ends_of c; trail = None; is_open = false; closed = false }

-- the bytes that one read gave, with this result, into this buffer
abbrev pub gained : {E : Type 0} → Result ℕ E → List ℕ → List ℕ
gained (Ok n) buffer = take n buffer
gained (Err e) buffer = []

-- whether a read with this result, into this buffer, is the last: it failed, or found the end
abbrev pub is_last_read : {E : Type 0} → Result ℕ E → List ℕ → Bool
is_last_read result buffer = is_err result || moves_nothing result buffer

-- 1 for a read that failed, unless its reader was closed: a closed reader reads nothing any more, so that its failure isn't counted
abbrev pub faults_by : (failed closed : Bool) → ℕ
faults_by failed closed = if failed then (if closed then 0 else 1) else 0

-- Nothing of the reader is open any more, and nothing else is seen to have changed, but that it may have been closed.
pub record Closes (before after : Sight) : Type 0 where
  pub bytes : after.bytes ≡ before.bytes
  pub faults : after.faults ≡ before.faults
  pub ends : after.ends ≡ before.ends
  pub trail : after.trail ≡ before.trail
  pub shut : after.is_open ≡ false

-- where a reader reads, if it says so
abbrev pub place_in : Sight → Option Place
place_in sight = option_map (λ (t : Trail). t.place) sight.trail

abbrev pub is_whole : Ending → Bool
is_whole Whole = true
is_whole _ = false

abbrev pub is_broken : Ending → Bool
is_broken Broken = true
is_broken _ = false

-- A source is too large where one byte more has come than the limit. No source gives more than that.
abbrev pub FitsLimit : ℕ → Ending → ℕ → Type 0
FitsLimit limit TooLarge bytes = bytes ≡ limit + 1
FitsLimit limit ending bytes = bytes ≤ limit

-- where a source is whole, its reader has nothing left, if its type tells its bytes
abbrev pub NothingIsLeft : Ending → Option (List ℕ) → Type 0
NothingIsLeft Whole left = IsAtEnd left
NothingIsLeft ending left = ⊤

-- A read that failed or found the end closes no reader: that is done where a source is too large, or is read no further.
abbrev pub ClosedBy : Ending → (before after : Sight) → Type 0
ClosedBy Whole before after = after.closed ≡ before.closed
ClosedBy Broken before after = after.closed ≡ before.closed
ClosedBy ending before after = ⊤

-- These bytes came from the reader, and then the reading ended so: by one failed read exactly where the source is broken (counted unless the reader was
-- closed before), by one end exactly where it is whole, and then nothing is left. Of a source that is read no further all that came was read, and
-- nothing is said of what is left. Whatever the ending, no file of the reader is open any more.
pub record WasRead (before after : Sight) (limit : ℕ) (bytes : List ℕ) (ending : Ending) : Type 0 where
  pub came : Consumes before.bytes after.bytes bytes
  pub trail : Trails before.trail after.trail bytes
  pub faults : after.faults ≡ before.faults + faults_by (is_broken ending) before.closed
  pub ends : after.ends ≡ before.ends + (if is_whole ending then 1 else 0)
  pub fits : FitsLimit limit ending (length bytes)
  pub rest : NothingIsLeft ending after.bytes
  pub shut : after.is_open ≡ false
  pub closed : ClosedBy ending before after

-- No read failed or found the end, and the reader wasn't closed.
pub record IsQuiet (before after : Sight) : Type 0 where
  pub faults : after.faults ≡ before.faults
  pub ends : after.ends ≡ before.ends
  pub closed : after.closed ≡ before.closed
