-- What a sweep of a record looks up.
use Rattle.std.specs.Prelude.{◌≡◌, ℕ, suc, ◌-◌, nat_lt, if◌then◌else◌, Bool, List, [], ◌∷◌, ◌++◌, map, flat_map, Option, Some, None, slice_get}
use Rattle.aero_leads.specs.Leads.{Rows, is_led}
use Rattle.aero_leads.specs.Leasts.{IsLeastOf}

-- the label that a code names
abbrev pub label_in : List (List ℕ) → ℕ → Option (List ℕ)
label_in labels code = if nat_lt code 2 then None else slice_get labels (code - 2)

-- the least places of the first threads' rows
abbrev pub AreLeasts : Rows → List (Option ℕ) → Type 0
AreLeasts rows leasts = (o : ℕ) (least : Option ℕ) → slice_get leasts o ≡ Some least → IsLeastOf (rows o) least

-- whether the least place of the row is no greater than the place, if there is one
abbrev pub IsMarkedAt : (ℕ → Option ℕ) → Option ℕ → Bool → Type 0
IsMarkedAt row place mark = (least : Option ℕ) × IsLeastOf row least × ((p : ℕ) → place ≡ Some p → mark ≡ is_led least p)

-- the places of the marks that are set
abbrev pub set_places : List Bool → List ℕ
set_places [] = []
set_places (b ∷ bs) = (if b then 0 ∷ [] else []) ++ map suc (set_places bs)

abbrev pub one_or_none : {X : Type 0} → Option X → List X
one_or_none None = []
one_or_none (Some x) = x ∷ []

-- the items at these places, as far as there are any
abbrev pub items_at : {X : Type 0} → List X → List ℕ → List X
items_at xs places = flat_map (λ p. one_or_none (slice_get xs p)) places
