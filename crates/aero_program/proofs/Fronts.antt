-- The first bytes of a text that comes in pieces.
use Rattle.std.proofs.Common.{◌≡◌, ◌∙◌, ◌+◌, ◌<◌, ℕ, List, ◌∷◌, [], ◌++◌, ap, sym, take, length, get_or, inl, inr, arith, append_assoc}
use Rattle.std.proofs.lemmas.Bool.{cases_lt}
use Rattle.std.proofs.lemmas.List.{take_all, take_more, take_at, take-append-le, length-take-le}

-- what lies past the first n of the front doesn't count
pub front_more : (n : ℕ) (x y : List ℕ) → take n (take n x ++ y) ≡ take n (x ++ y)
front_more n x y = elim (cases_lt (length x) n) [
  | inl h ↦ ap (λ l. take n (l ++ y)) (take_all n x (omega arith))
  | inr h ↦ take_at (take n x) y n (length-take-le n x (omega arith)) ∙ sym (take-append-le n x y (omega arith))
]

-- one byte more is taken of what comes next
pub one_more : (n i : ℕ) (front old given : List ℕ) (now : List ℕ) → front ≡ take n (old ++ take i given) → i < length given
    → now ≡ take n (front ++ get_or given i 0 ∷ []) → now ≡ take n (old ++ take (i + 1) given)
one_more n i front old given now before below step =
    step ∙ ap (λ l. take n (l ++ get_or given i 0 ∷ [])) before ∙ front_more n (old ++ take i given) (get_or given i 0 ∷ [])
    ∙ ap (take n) (append_assoc old (take i given) (get_or given i 0 ∷ []) ∙ ap (λ l. old ++ l) (sym (take_more given i 0 below)))
