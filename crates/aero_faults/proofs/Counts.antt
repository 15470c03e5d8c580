-- How often something was done, with one event more.
use Rattle.std.proofs.Common.{◌≡◌, ◌≢◌, ℕ, ◌+◌, Bool, true, false, cond, List, [], ◌∷◌, ◌++◌, length, take, inl, inr, ap, arith}
use Rattle.std.specs.Prelude.{bytes_eq, count_by}
use Rattle.std.proofs.lemmas.Bool.{cases_Bool, cases_lt}
use Rattle.std.proofs.lemmas.List.{take_all, take-append-le}
use Rattle.std.proofs.lemmas.List.Sums.{sum_by-append}
use Rattle.std.proofs.lemmas.Slice.Eq.{bytes_eq-Decides}
use Rattle.std.proofs.Common.{length-append}

pub count_push : {X : Type 0} (p : X → Bool) (xs : List X) (x : X) → count_by p (xs ++ x ∷ []) ≡ count_by p xs + cond {A = ℕ} (p x) 1 0
count_push p xs x =
    let one : count_by p (xs ++ x ∷ []) ≡ count_by p xs + (0 + cond {A = ℕ} (p x) 1 0) = sum_by-append (λ y. cond {A = ℕ} (p y) 1 0) xs (x ∷ []) in
    omega arith

pub count_no : {X : Type 0} (p : X → Bool) (xs : List X) (x : X) → p x ≡ false → count_by p (xs ++ x ∷ []) ≡ count_by p xs
count_no p xs x fails =
    let one = count_push p xs x in
    let none : cond {A = ℕ} (p x) 1 0 ≡ 0 = ap (λ b. cond {A = ℕ} b 1 0) fails in
    omega arith

pub count_yes : {X : Type 0} (p : X → Bool) (xs : List X) (x : X) → p x ≡ true → count_by p (xs ++ x ∷ []) ≡ count_by p xs + 1
count_yes p xs x passes =
    let one = count_push p xs x in
    let some : cond {A = ℕ} (p x) 1 0 ≡ 1 = ap (λ b. cond {A = ℕ} b 1 0) passes in
    omega arith

pub same_bytes : (a b : List ℕ) → a ≡ b → bytes_eq a b ≡ true
same_bytes a b is = (bytes_eq-Decides a b).1 is

pub are_same : (a b : List ℕ) → bytes_eq a b ≡ true → a ≡ b
are_same a b is = (bytes_eq-Decides a b).0 is

pub other_bytes : (a b : List ℕ) → a ≢ b → bytes_eq a b ≡ false
other_bytes a b other = elim (cases_Bool (bytes_eq a b)) [ inl is ↦ absurd (other (are_same a b is)) | inr is ↦ is ]

-- the front of a list with one item more, which is the front of the list, or all
pub front_of_more : {X : Type 0} (P : List X → Type 0) (xs : List X) (x : X) → ((k : ℕ) → P (take k xs)) → P (xs ++ x ∷ []) → (k : ℕ) → P (take k (xs ++ x ∷ []))
front_of_more P xs x before all k = elim (cases_lt (length xs) k) [
  | inl past ↦ (let same = take_all k (xs ++ x ∷ []) (let longer = length-append xs (x ∷ []) in omega (arith, longer)) in rw same all)
  | inr within ↦ (let same = take-append-le k xs (x ∷ []) within in rw same (before k))
]
