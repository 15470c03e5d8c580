-- The order of the numbers below a count along given edges, each time the least that may come.
use Rattle.std.specs.Prelude.{ℕ, ◌<◌, ◌++◌, List, [], ◌∷◌, Contains}

module _ (count : ℕ) (edges : List (ℕ × ℕ)) where
  -- the number isn't in the list yet, and all are from which an edge leads to it
  pub record IsFree (order : List ℕ) (v : ℕ) : Type 0 where
    pub within : v < count
    pub new : ¬ Contains order v
    pub after : (u : ℕ) → Contains edges (u, v) → Contains order u

  -- it is the least of these
  pub record IsLeastFree (order : List ℕ) (v : ℕ) : Type 0 where
    pub free : IsFree order v
    pub least : (u : ℕ) → u < v → ¬ IsFree order u

  -- the list goes on with these, each the least, until there is none
  abbrev pub GoesOnWith : List ℕ → List ℕ → Type 0
  GoesOnWith order [] = (v : ℕ) → ¬ IsFree order v
  GoesOnWith order (v ∷ more) = IsLeastFree order v × GoesOnWith (order ++ v ∷ []) more

  abbrev pub IsOrder : List ℕ → Type 0
  IsOrder order = GoesOnWith [] order
