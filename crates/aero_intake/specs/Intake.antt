-- A source that is being read and cut.
use Rattle.std.specs.Prelude.{◌≡◌, Bool, true, false, ℕ, zero, suc, ◌+◌, ◌<◌, ◌≤◌, List, [], ◌∷◌, ◌++◌, length, take, option_to_list, Option, Some, None, Result, Ok, Err}
use Rattle.std.specs.List.{concat}
use Rattle.std.specs.Io.KnownBytes.{Consumes}
use Rattle.aero_model.specs.declared.verdict.Ending.{Ending}
use Rattle.aero_model.specs.declared.verdict.Ending.TheVariants.{Whole, Broken, TooLarge, Stopped}
use Rattle.aero_lines.specs.Cutting.{Cutting, nothing_yet, fed, block_of}
use Rattle.aero_intake.specs.Source.{Closes, IsQuiet, Sight, Trails, WasRead}
use Rattle.aero_intake.specs.declared.intake.Taken.{Taken}
use Rattle.aero_intake.specs.declared.intake.Taken.TheVariants.{Piece, Ended}

-- where the cutting stands, the bytes that came and aren't cut yet, how many have come in all, and whether some were passed over
pub record Taking : Type 0 where
  pub cutting : Cutting
  pub held : List ℕ
  pub count : ℕ
  pub passed : Bool

-- before the first piece
abbrev pub nothing_taken : Taking
nothing_taken = record { cutting = nothing_yet; held = []; count = 0; passed = false }

-- with one piece more, which is held
abbrev pub with_piece : Taking → List ℕ → Taking
with_piece i piece = record { cutting = i.cutting; held = i.held ++ piece; count = i.count + length piece; passed = i.passed }

-- with all that was held fed to the cutting
abbrev pub with_cut : Taking → Taking
with_cut i = record { cutting = fed i.cutting i.held; held = []; count = i.count; passed = i.passed }

-- with all that was held passed over
abbrev pub with_passing : Taking → Taking
with_passing i = record { cutting = i.cutting; held = []; count = i.count; passed = true }

-- what a cutting becomes with these pieces, one after the other
abbrev pub fed_all : Cutting → List (List ℕ) → Cutting
fed_all c [] = c
fed_all c (piece ∷ pieces) = fed_all (fed c piece) pieces

-- the chunks that these pieces give, one after the other, while the text goes on
abbrev pub chunks_so_far : Cutting → List (List ℕ) → List (List ℕ)
chunks_so_far c [] = []
chunks_so_far c (piece ∷ pieces) = option_to_list (block_of c piece) ++ chunks_so_far (fed c piece) pieces

-- These pieces were cut, one after the other, and gave these chunks, and what is held came after them. Where some were passed over, these are the
-- chunks that they would have given.
pub record IsTaken (i : Taking) (pieces chunks : List (List ℕ)) : Type 0 where
  pub cutting : i.passed ≡ false → i.cutting ≡ fed_all nothing_yet pieces
  pub given : chunks ≡ chunks_so_far nothing_yet pieces
  pub count : i.count ≡ length (concat pieces ++ i.held)

-- These bytes came from the reader, and no read failed or found the end.
pub record HaveCome (before after : Sight) (bytes : List ℕ) : Type 0 where
  pub came : Consumes before.bytes after.bytes bytes
  pub trail : Trails before.trail after.trail bytes
  pub quiet : IsQuiet before after

-- These bytes have come from a reader, and its reading has ended so, if it has.
abbrev pub HasCome : (before after : Sight) (limit : ℕ) (bytes : List ℕ) → Option Ending → Type 0
HasCome before after limit bytes None = HaveCome before after bytes
HasCome before after limit bytes (Some ending) = WasRead before after limit bytes ending

-- One read gave this piece, of at least one byte, and of no more than it may ask for or than the limit and one byte.
pub record Comes (before after : Sight) (most limit count : ℕ) (piece : List ℕ) : Type 0 where
  pub come : HaveCome before after piece
  pub some : 0 < length piece
  pub few : length piece ≤ most
  pub within : count + length piece ≤ limit + 1

-- The source has ended once so many bytes had come: by a read that gave nothing, or, where it is too large, without a read, and its reader is closed. No
-- read says that it is read no further.
abbrev pub Ends : (before after : Sight) (limit count : ℕ) → Ending → Type 0
Ends before after limit count TooLarge = Closes before after × (count ≡ limit + 1)
Ends before after limit count Stopped = ⊥
Ends before after limit count ending = WasRead before after limit [] ending × (count ≤ limit)

-- One step: a piece comes, and is held. Or the source has ended, and what came stays.
abbrev pub Takes : (before after : Sight) (most limit : ℕ) (old new : Taking) → Taken → Type 0
Takes before after most limit old new Piece = (piece : List ℕ) × Comes before after most limit old.count piece × (new ≡ with_piece old piece)
Takes before after most limit old new (Ended ending) = Ends before after limit old.count ending × (new ≡ old)

-- So many bytes came, which stand in the buffer behind those that it held, and none only at the end.
abbrev pub FillsWith : (before after : Sight) (held room : ℕ) (old new : List ℕ) → ℕ → Type 0
FillsWith before after held room old new zero = ((limit : ℕ) → WasRead before after limit [] Whole) × (take held new ≡ take held old)
FillsWith before after held room old new (suc n) =
    (piece : List ℕ) × HaveCome before after piece × (length piece ≡ suc n) × (suc n ≤ room) × (take (held + suc n) new ≡ take held old ++ piece)

-- One read into a buffer, behind the bytes that it holds: bytes came, or the read failed.
abbrev pub Fills : {E : Type 0} → (before after : Sight) (held room : ℕ) (old new : List ℕ) → Result ℕ E → Type 0
Fills before after held room old new (Ok n) = FillsWith before after held room old new n
Fills before after held room old new (Err e) = ((limit : ℕ) → WasRead before after limit [] Broken) × (take held new ≡ take held old)
