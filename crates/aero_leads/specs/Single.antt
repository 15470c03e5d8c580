-- A row has each block once.
use Rattle.std.specs.Prelude.{◌==◌, ◌≤◌, ℕ, List, if◌then◌else◌, sum_by, slice_get}
use Rattle.aero_leads.specs.declared.row.Lead.{Lead}
use Rattle.aero_leads.specs.declared.thread.Thread.{Thread}
use Rattle.aero_leads.specs.Kept.{thread_row}

-- how many leads of the row are of thread w's block
abbrev pub leads_of : ℕ → List Lead → ℕ
leads_of w row = sum_by (λ (l : Lead). if l.opener == w then 1 else 0) row

abbrev pub IsSingle : List Lead → Type 0
IsSingle row = (w : ℕ) → leads_of w row ≤ 1

abbrev pub AreSingle : List Thread → Type 0
AreSingle threads = (o : ℕ) → IsSingle (thread_row (slice_get threads o))
