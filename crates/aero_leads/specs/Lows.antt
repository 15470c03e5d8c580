-- From which place on open blocks may lead to a thread.
use Rattle.std.specs.Prelude.{◌≡◌, ℕ, false, List, Option, Some, None, slice_get}
use Rattle.aero_leads.specs.declared.lows.Lows.{Lows}
use Rattle.aero_leads.specs.declared.thread.Thread.{Thread}
use Rattle.aero_leads.specs.Kept.{rows_in, is_below}

abbrev pub low_in : Option ℕ → ℕ
low_in None = 0
low_in (Some n) = n

-- the place that is kept for thread o
abbrev pub low_of : Lows → ℕ → ℕ
low_of lows o = low_in (slice_get lows.places.items o)

-- no open block leads to an event of thread o below it
abbrev pub IsLow : List Thread → Lows → ℕ → Type 0
IsLow threads lows o = (w : ℕ) → is_below (rows_in threads o w) (low_of lows o) ≡ false

-- and so for each thread
abbrev pub AreLow : List Thread → Lows → Type 0
AreLow threads lows = (o : ℕ) → IsLow threads lows o
