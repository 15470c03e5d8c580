-- A list of numbers below n has n of them at most, where none stands twice.
use Rattle.std.proofs.Common.{◌≡◌, ℕ, zero, suc, ◌<◌, ◌≤◌, true, false, List, [], ◌∷◌, length, Some, eqb, inl, inr, refl, sym, ◌∙◌, ap, arith}
use Rattle.std.specs.Prelude.{slice_get}
use Rattle.std.specs.List.{IsDistinct, AllByRecursion, list_any}
use Rattle.std.proofs.lemmas.Bool.{or_cases, eqb-true, ne_eqb, false≢true}
use Rattle.std.proofs.lemmas.Option.{same_Some}
use Rattle.std.proofs.lemmas.Map.Keys.{IsDistinct-cons}
use Rattle.std.proofs.lemmas.Map.Steps.{length-le_from_distinct_below}

-- no number stands twice
abbrev pub AreOnce : List ℕ → Type 0
AreOnce xs = (i j x : ℕ) → slice_get xs i ≡ Some x → slice_get xs j ≡ Some x → i ≡ j

abbrev pub AreBelow : ℕ → List ℕ → Type 0
AreBelow n xs = (i x : ℕ) → slice_get xs i ≡ Some x → x < n

apart : (x : ℕ) (xs : List ℕ) → ((i : ℕ) → slice_get xs i ≡ Some x → ⊥) → AllByRecursion (λ y. eqb x y ≡ false) xs
apart x [] h = tt
apart x (y ∷ ys) h = (ne_eqb x y (λ e. h zero (ap Some (sym e))), apart x ys (λ i at. h (suc i) at))

distinct : (xs : List ℕ) → AreOnce xs → IsDistinct eqb xs
unfolding IsDistinct
distinct [] h = tt
distinct (x ∷ xs) h =
    IsDistinct-cons eqb x xs
    (apart x xs (λ i at. absurd (omega (arith, h zero (suc i) x refl at))))
    (distinct xs (λ i j y a b. omega (arith, h (suc i) (suc j) y a b)))

found : (q : ℕ) (xs : List ℕ) → list_any (eqb q) xs ≡ true → (i : ℕ) × (slice_get xs i ≡ Some q)
found q [] h = absurd (false≢true h)
found q (x ∷ xs) h = elim (or_cases (eqb q x) (list_any (eqb q) xs) h) [
  | inl e ↦ (zero, ap Some (sym (eqb-true q x e)))
  | inr rest ↦ (let f = found q xs rest in (suc f.0, f.1))
]

pub few : (n : ℕ) (xs : List ℕ) → AreOnce xs → AreBelow n xs → length xs ≤ n
few n xs once below = length-le_from_distinct_below xs n (distinct xs once) (λ q h. let f = found q xs h in below f.0 q f.1)

pub once_more : (x : ℕ) (xs : List ℕ) → ((i : ℕ) → slice_get xs i ≡ Some x → ⊥) → AreOnce xs → AreOnce (x ∷ xs)
once_more x xs new once zero zero y a b = refl
once_more x xs new once zero (suc j) y a b = absurd (new j (b ∙ sym a))
once_more x xs new once (suc i) zero y a b = absurd (new i (a ∙ sym b))
once_more x xs new once (suc i) (suc j) y a b = ap suc (once i j y a b)

pub below_more : (n x : ℕ) (xs : List ℕ) → x < n → AreBelow n xs → AreBelow n (x ∷ xs)
below_more n x xs l below zero y a = let e = same_Some x y a in omega arith
below_more n x xs l below (suc i) y a = below i y a
