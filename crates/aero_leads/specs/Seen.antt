-- Which open blocks are known to lead to a thread.
use Rattle.std.specs.Prelude.{◌≡◌, ℕ, Bool, true, false, List, [], Option, Some, None, is_some, slice_get}
use Rattle.aero_leads.specs.declared.seen.SeenRow.{SeenRow}
use Rattle.aero_leads.specs.declared.seen.Seen.{Seen}
use Rattle.aero_leads.specs.declared.thread.Thread.{Thread}
use Rattle.aero_leads.specs.Kept.{rows_in}

abbrev pub seen_or_not : Option Bool → Bool
seen_or_not None = false
seen_or_not (Some b) = b

-- whether thread w is one of these openers
abbrev pub seen_at : List Bool → ℕ → Bool
seen_at openers w = seen_or_not (slice_get openers w)

abbrev pub openers_in : Option SeenRow → List Bool
openers_in None = []
openers_in (Some r) = r.openers.items

-- whether the open block of thread w is known to lead to thread o
abbrev pub is_seen : Seen → ℕ → ℕ → Bool
is_seen seen o w = seen_at (openers_in (slice_get seen.rows.items o)) w

abbrev pub whole_in : Option SeenRow → Bool
whole_in None = false
whole_in (Some r) = r.whole

-- whether all blocks that lead to thread o are known to
abbrev pub is_whole : Seen → ℕ → Bool
is_whole seen o = whole_in (slice_get seen.rows.items o)

-- what is known is so
abbrev pub AreSeen : List Thread → Seen → Type 0
AreSeen threads seen = (o w : ℕ) → is_seen seen o w ≡ true → is_some (rows_in threads o w) ≡ true

-- each block that leads to thread o is known to
abbrev pub IsWhole : List Thread → Seen → ℕ → Type 0
IsWhole threads seen o = (w : ℕ) → is_some (rows_in threads o w) ≡ true → is_seen seen o w ≡ true

pub record AreKnown (threads : List Thread) (seen : Seen) : Type 0 where
  pub so : AreSeen threads seen
  -- where a row is said to be whole, it is
  pub whole : (o : ℕ) → is_whole seen o ≡ true → IsWhole threads seen o
