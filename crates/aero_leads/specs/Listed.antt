-- To which threads each open block leads, as they are listed.
use Rattle.std.specs.Prelude.{◌≡◌, ◌≢◌, ℕ, ◌==◌, Bool, true, List, [], Option, Some, None, is_some, slice_get}
use Rattle.std.specs.List.{list_any}
use Rattle.aero_leads.specs.declared.row.Lead.{Lead}
use Rattle.aero_leads.specs.declared.led.Followers.{Followers}
use Rattle.aero_leads.specs.declared.led.Led.{Led}
use Rattle.aero_leads.specs.declared.thread.Thread.{Thread}
use Rattle.aero_leads.specs.Kept.{least_in, thread_row}

abbrev pub followers_in : Option Followers → List ℕ
followers_in None = []
followers_in (Some f) = f.threads.items

-- the threads that are listed with thread w
abbrev pub followers : Led → ℕ → List ℕ
followers led w = followers_in (slice_get led.lists.items w)

-- whether thread o is one of them
abbrev pub is_listed : Led → ℕ → ℕ → Bool
is_listed led w o = list_any (λ u. u == o) (followers led w)

-- thread o, whose row this is, is listed with each other thread for which the row has a place
abbrev pub IsListedRow : List Lead → Led → ℕ → Type 0
IsListedRow row led o = (w : ℕ) → w ≢ o → is_some (least_in row w) ≡ true → is_listed led w o ≡ true

-- and so is each thread
abbrev pub AreListed : List Thread → Led → Type 0
AreListed threads led = (o : ℕ) → IsListedRow (thread_row (slice_get threads o)) led o

-- who was listed still is
abbrev pub Grows : Led → Led → Type 0
Grows old new = (w o : ℕ) → is_listed old w o ≡ true → is_listed new w o ≡ true
