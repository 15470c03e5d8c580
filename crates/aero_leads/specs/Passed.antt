-- What the open blocks have passed on.
use Rattle.std.specs.Prelude.{◌≡◌, ◌≢◌, ℕ, nat_le, nat_lt, not, ◌==◌, ◌&&◌, Bool, true, List, filter, Option, Some, None, slice_get}
use Rattle.aero_leads.specs.declared.row.Lead.{Lead}
use Rattle.aero_leads.specs.declared.passed.Passed.{Passed}
use Rattle.aero_leads.specs.declared.thread.Thread.{Thread}
use Rattle.aero_leads.specs.Kept.{rows_in, is_below}
use Rattle.aero_leads.specs.Leads.{is_led}

abbrev pub passed_in : Option ℕ → ℕ
passed_in None = 0
passed_in (Some n) = n

-- the place that is kept for thread t
abbrev pub passed_of : Passed → ℕ → ℕ
passed_of passed t = passed_in (slice_get passed.places.items t)

-- whether p is no later than the place, where that is known
abbrev pub is_early : Option ℕ → ℕ → Bool
is_early None p = true
is_early (Some n) p = nat_le p n

pub record ArePassed (threads : List Thread) (passed : Passed) : Type 0 where
  -- what leads to an event of thread t below its place leads to each other thread to which t's open block leads, and no later
  pub on : (o t w p : ℕ) → o ≢ t → is_below (rows_in threads t w) (passed_of passed t) ≡ true → rows_in threads o t ≡ Some p → is_led (rows_in threads o w) p ≡ true
  -- no row has a later place than the latest
  pub early : (o w p : ℕ) → rows_in threads o w ≡ Some p → is_early passed.latest p ≡ true

-- whether the lead is of another thread than t, and from this place or a later one on
abbrev pub is_since : ℕ → ℕ → Lead → Bool
is_since t place l = not (l.opener == t) && not (nat_lt l.place place)

abbrev pub leads_since : ℕ → ℕ → List Lead → List Lead
leads_since t place ls = filter (is_since t place) ls
