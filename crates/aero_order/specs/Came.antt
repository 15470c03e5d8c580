-- The events as they came, by their lines and threads, and what is kept of first events.
use Rattle.std.specs.Prelude.{◌≡◌, ℕ, List, map, Some, slice_get, slice_index_or}
use Rattle.aero_order.specs.declared.first.First.{First}

-- The number of an event's line, and its thread's number
pub record Came : Type 0 where
  pub line : ℕ
  pub thread : ℕ

abbrev pub places_in : List First → List ℕ
places_in firsts = map (λ f. f.place) firsts

abbrev pub no_first : First
no_first = record { place = 0; line = 0; thread = 0 }

-- the first event of the transaction with the number
abbrev pub first_of : List First → ℕ → First
first_of firsts v = slice_index_or firsts v no_first

-- the event at its place came on its line, of its thread
abbrev pub IsOf : List Came → First → Type 0
IsOf came f = slice_get came f.place ≡ Some (record { line = f.line; thread = f.thread })

abbrev pub AreOf : List Came → List First → Type 0
AreOf came firsts = (v : ℕ) (f : First) → slice_get firsts v ≡ Some f → IsOf came f
