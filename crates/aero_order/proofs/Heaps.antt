-- How often an element is in a heap, before and after a step.
use Rattle.std.proofs.Common.{◌≡◌, ℕ, ◌+◌, ◌<◌, ◌==◌, Bool, false, cond, List, [], ◌∷◌, refl, sym, ◌∙◌, ap, arith}
use Rattle.std.specs.Prelude.{count_by, IsPermutation}
use Rattle.std.specs.List.{AllByRecursion}
use Rattle.std.specs.Ordering.{nat_cmp, is_lt}
use Rattle.std.proofs.Common.{Less, Equal, Greater}
use Rattle.std.proofs.lemmas.Bool.{lt-ltb, ne_eqb, both_ways}
use Rattle.std.proofs.lemmas.List.Sorted.{sum_by-IsPermutation}
use Rattle.aero_order.specs.Waiting.{one_if}
use Rattle.aero_order.proofs.Counts.{count_cons}

pub count_pushed : {X : Type 0} (p : X → Bool) (x : X) (xs ys : List X) → IsPermutation (x ∷ xs) ys → count_by p ys ≡ one_if (p x) + count_by p xs
count_pushed p x xs ys h = sum_by-IsPermutation (λ y. cond {A = ℕ} (p y) 1 0) (x ∷ xs) ys h ∙ count_cons p x xs

pub count_popped : {X : Type 0} (p : X → Bool) (x : X) (xs ys : List X) → IsPermutation xs (x ∷ ys) → count_by p xs ≡ one_if (p x) + count_by p ys
count_popped p x xs ys h = sym (sum_by-IsPermutation (λ y. cond {A = ℕ} (p y) 1 0) xs (x ∷ ys) h) ∙ count_cons p x ys

not_less : (a b : ℕ) → is_lt (nat_cmp a b) ≡ false → (a < b → ⊥)
not_less a b h l = both_ways (is_lt (nat_cmp a b)) h (ap (λ t. is_lt (cond t Less (cond (a == b) Equal Greater))) (lt-ltb a b l))

-- none is less than the one that was taken
pub none_less : {X : Type 0} (key : X → ℕ) (x : X) (xs : List X) → AllByRecursion (λ y. is_lt (nat_cmp (key y) (key x)) ≡ false) xs → (w : ℕ) → w < key x → count_by (λ y. key y == w) xs ≡ 0
none_less key x [] h w l = refl
none_less key x (y ∷ ys) h w l =
    let rest = none_less key x ys h.1 w l in
    let at_least = not_less (key y) (key x) h.0 in
    let none : one_if (key y == w) ≡ 0 = ap one_if (ne_eqb (key y) w (λ e. at_least (omega (arith, e)))) in
    omega (arith, count_cons (λ z. key z == w) y ys)
