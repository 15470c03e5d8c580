-- What a look at the files of a run tells: how many bytes they have together.
use Rattle.std.specs.Prelude.{◌≡◌, ◌+◌, ℕ, List, [], ◌∷◌, Option}
use Rattle.aero_intake.specs.declared.source.SourceOf.{SourceOf}
use Rattle.aero_program.specs.declared.stamp.Stamp.{Stamp}

-- a plain file at the path may bear this stamp; `holds` says which bytes a file may have that was opened at a path and bore a stamp
abbrev pub MayBear : (holds : List ℕ → Stamp → Option (List ℕ) → Type 0) → (path : List ℕ) → Stamp → Type 0
MayBear holds path stamp = (given : Option (List ℕ)) × holds path stamp given

-- such a file has so many bytes, by a stamp that it may bear
abbrev pub HasSize : (holds : List ℕ → Stamp → Option (List ℕ) → Type 0) → (path : List ℕ) → ℕ → Type 0
HasSize holds path size = (stamp : Stamp) × MayBear holds path stamp × (stamp.size ≡ size)

-- each file has a size, and these are the whole together
abbrev pub AreSizes : (List ℕ → ℕ → Type 0) → List (List ℕ) → ℕ → Type 0
AreSizes has_size [] whole = whole ≡ 0
AreSizes has_size (file ∷ more) whole = (first : ℕ) × (rest : ℕ) × has_size file first × AreSizes has_size more rest × (whole ≡ first + rest)

-- all of a source but whether it may wait
abbrev pub name_and_reader : {R : Type 0} → SourceOf R → List ℕ × R
name_and_reader source = (source.name.items, source.reader)
