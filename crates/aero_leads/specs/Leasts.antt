-- The least place of a row.
use Rattle.std.specs.Prelude.{◌≡◌, ℕ, ◌≤◌, Option, Some, None}

-- the least place that the row has for some thread's block, or none where it has none
abbrev pub IsLeastOf : (ℕ → Option ℕ) → Option ℕ → Type 0
IsLeastOf row None = (w : ℕ) → row w ≡ None
IsLeastOf row (Some p) = ((w : ℕ) × (row w ≡ Some p)) × ((w q : ℕ) → row w ≡ Some q → p ≤ q)
