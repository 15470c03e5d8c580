-- Lists that are the same element by element.
use Rattle.std.proofs.Common.{◌≡◌, ℕ, ◌<◌, List, [], ◌∷◌, length, get_or, arith}
use Rattle.std.proofs.lemmas.List.{ext_get_or}

-- the elements below n are the same
abbrev pub SameUpTo : {A : Type 0} → List A → List A → ℕ → Type 0
SameUpTo {A} xs ys n = (k : ℕ) (d : A) → k < n → get_or xs k d ≡ get_or ys k d

pub same_lists : {A : Type 0} (xs ys : List A) → length xs ≡ length ys → SameUpTo xs ys (length xs) → xs ≡ ys
same_lists [] [] len all = cc
same_lists [] (y ∷ ys) len all = absurd (omega (arith, len))
same_lists (x ∷ xs) ys len all = ext_get_or x (x ∷ xs) ys len (λ k. all k x)
