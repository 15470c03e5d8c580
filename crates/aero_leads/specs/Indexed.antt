-- Where the open blocks stand in a row.
use Rattle.std.specs.Prelude.{◌≡◌, ℕ, ◌<◌, true, false, List, length, Option, Some, None, is_some, slice_get}
use Rattle.aero_leads.specs.declared.row.Lead.{Lead}
use Rattle.aero_leads.specs.declared.index.Index.{Index}
use Rattle.aero_leads.specs.Kept.{least_in}

abbrev pub place_in : Option ℕ → ℕ
place_in None = 0
place_in (Some n) = n

-- the place that was entered for thread w, or 0
abbrev pub place_of : Index → ℕ → ℕ
place_of index w = place_in (slice_get index.places.items w)

abbrev pub opener_of : Option Lead → Option ℕ
opener_of None = None
opener_of (Some l) = Some l.opener

-- a place in the row where thread w's block stands, or none where it stands nowhere
abbrev pub IsFound : List Lead → ℕ → Option ℕ → Type 0
IsFound row w None = is_some (least_in row w) ≡ false
IsFound row w (Some i) = (i < length row) × (opener_of (slice_get row i) ≡ Some w)

-- the row's lead for thread w, or none
abbrev pub IsLeadOf : List Lead → ℕ → Option Lead → Type 0
IsLeadOf row w None = least_in row w ≡ None
IsLeadOf row w (Some l) = (l.opener ≡ w) × (least_in row w ≡ Some l.place)

-- each block of the row stands where it is entered
abbrev pub IsIndexed : List Lead → Index → Type 0
IsIndexed row index = (w : ℕ) → is_some (least_in row w) ≡ true → opener_of (slice_get row (place_of index w)) ≡ Some w
