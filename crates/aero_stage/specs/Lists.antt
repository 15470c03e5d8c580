-- Parts of a list.
use Rattle.std.specs.Prelude.{◌≡◌, List, [], ◌∷◌, ◌++◌, ◌⊎◌}

module _ {A : Type 0} where
  -- xs is ys with some items left out. It is what IsSubsequence of aero_pieces is for numbers
  abbrev pub IsSubsequence : List A → List A → Type 0
  IsSubsequence xs [] = xs ≡ []
  IsSubsequence xs (y ∷ ys) = IsSubsequence xs ys ⊎ ((rest : List A) × (xs ≡ y ∷ rest) × IsSubsequence rest ys)

  -- ys begins with xs
  abbrev pub Begins : List A → List A → Type 0
  Begins xs ys = (rest : List A) × (xs ++ rest ≡ ys)
