-- How a source begins.
use Rattle.std.specs.Prelude.{ℕ, List, [], ◌∷◌, ◌++◌, take, Result, Ok, Err}
use Rattle.aero_program.specs.declared.start.Start.{Start}
use Rattle.aero_program.specs.declared.start.Start.TheVariants.{Nothing, One, Two, Three}

abbrev pub start_bytes : Start → List ℕ
start_bytes Nothing = []
start_bytes (One first) = first ∷ []
start_bytes (Two first second) = first ∷ second ∷ []
start_bytes (Three first second third) = first ∷ second ∷ third ∷ []

-- the first three bytes of a source, after one more read with this result into this buffer
abbrev pub start_after : {E : Type 0} → List ℕ → Result ℕ E → List ℕ → List ℕ
start_after start (Ok n) buffer = take 3 (start ++ take n buffer)
start_after start (Err error) buffer = start

-- 1F 8B, with which all that gzip makes begins
abbrev pub gzip_mark : List ℕ
gzip_mark = 31 ∷ 139 ∷ []

-- EF BB BF
abbrev pub byte_order_mark : List ℕ
byte_order_mark = 239 ∷ 187 ∷ 191 ∷ []
