-- What is kept by number, and of which events.
use Rattle.std.specs.Prelude.{ℕ, ◌==◌, ◌||◌, Bool, false, min, List, Option, Some, None, slice_index_or}
use Rattle.aero_model.specs.declared.numbered.Numbered.{Numbered}
use Rattle.aero_model.specs.declared.numbered.What.{What}
use Rattle.aero_model.specs.declared.numbered.What.TheVariants.{Read, Write}
use Rattle.aero_model.specs.Shape.{is_fork_of}

abbrev pub mark_at : List (Option ℕ) → ℕ → Option ℕ
mark_at marks k = slice_index_or marks k None

-- the first stays
abbrev pub with_first : Option ℕ → ℕ → Option ℕ
with_first None place = Some place
with_first (Some first) place = Some first

abbrev pub least : Option ℕ → Option ℕ → Option ℕ
least None other = other
least (Some i) None = Some i
least (Some i) (Some j) = Some (min i j)

abbrev pub is_write_of : ℕ → What → Bool
is_write_of x (Write y) = x == y
is_write_of x _ = false

abbrev pub is_read_of : ℕ → What → Bool
is_read_of x (Read y) = x == y
is_read_of x _ = false

-- whether the event is one of the thread, or its fork
abbrev pub is_ahead : ℕ → Numbered → Bool
is_ahead t e = (e.thread == t) || is_fork_of t e.what
