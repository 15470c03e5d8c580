-- Up to which place open blocks come to lead to a thread.
use Rattle.std.specs.Prelude.{◌≡◌, ℕ, true, List, Option, Some, None, slice_get}
use Rattle.aero_leads.specs.declared.row.Lead.{Lead}
use Rattle.aero_leads.specs.declared.highs.Highs.{Highs}
use Rattle.aero_leads.specs.declared.thread.Thread.{Thread}
use Rattle.aero_leads.specs.Kept.{least_in, thread_row}
use Rattle.aero_leads.specs.Passed.{is_early}

abbrev pub high_in : Option (Option ℕ) → Option ℕ
high_in None = None
high_in (Some h) = h

-- the place that is kept for thread o, where one is known
abbrev pub high_of : Highs → ℕ → Option ℕ
high_of highs o = high_in (slice_get highs.places.items o)

-- no open block comes to lead to the row's thread above it
abbrev pub IsHigh : List Lead → Option ℕ → Type 0
IsHigh row high = (w p : ℕ) → least_in row w ≡ Some p → is_early high p ≡ true

-- and so for each thread
abbrev pub AreHigh : List Thread → Highs → Type 0
AreHigh threads highs = (o : ℕ) → IsHigh (thread_row (slice_get threads o)) (high_of highs o)
