-- Lists of different names: a new name gets the next number, and every name keeps its own.
use Rattle.std.proofs.Common.{◌≡◌, ℕ, ◌+◌, Bool, true, false, not, cond, List, [], ◌∷◌, ◌++◌, length, refl, sym, ◌∙◌, ap, inl, inr, arith}
use Rattle.std.specs.Prelude.{fold, bytes_eq}
use Rattle.std.specs.List.{list_any, position_or_len}
use Rattle.std.proofs.lemmas.Bool.{cases_Bool, cond-true, cond-false, or_parts, or_cases, or_left, or_right, not_from_false, not_from_true, both_ways}
use Rattle.std.proofs.lemmas.List.{append_assoc, append-nil}
use Rattle.std.proofs.lemmas.List.Folds.{list_any-append}
use Rattle.std.proofs.lemmas.Slice.Eq.{bytes_eq-Decides}
use Rattle.aero_model.specs.Numbering.{with_name, number_of}
use Rattle.aero_names.specs.Additions.{number_after}

equal_itself : (name : List ℕ) → bytes_eq name name ≡ true
equal_itself name = (bytes_eq-Decides name name).1 refl

-- a place in the front of a list, and the place behind a list
place_in_front : (p : List ℕ → Bool) (xs ys : List (List ℕ)) → list_any p xs ≡ true → position_or_len p (xs ++ ys) ≡ position_or_len p xs
place_in_front p [] ys some = absurd (cc)
place_in_front p (x ∷ xs) ys some =
    elim (cases_Bool (p x)) [
      | inl here ↦ cond-false (not (p x)) _ _ (not_from_true (p x) here) ∙ sym (cond-false (not (p x)) _ _ (not_from_true (p x) here))
      | inr not_here ↦
          let later : list_any p xs ≡ true = elim (or_cases (p x) (list_any p xs) some) [ inl here ↦ absurd (both_ways (p x) not_here here) | inr later ↦ later ] in
          ap (λ n. cond {A = ℕ} (not (p x)) (1 + n) 0) (place_in_front p xs ys later)
    ]

place_behind : (p : List ℕ → Bool) (xs : List (List ℕ)) (y : List ℕ) → list_any p xs ≡ false → p y ≡ true → position_or_len p (xs ++ y ∷ []) ≡ length xs
place_behind p [] y none here = cond-false (not (p y)) _ _ (not_from_true (p y) here)
place_behind p (x ∷ xs) y none here =
    let parts = or_parts (p x) (list_any p xs) none in
    let later = place_behind p xs y parts.1 here in
    let first = cond-true {A = ℕ} (not (p x)) (1 + position_or_len p (xs ++ y ∷ [])) 0 (not_from_false (p x) parts.0) in
    omega (arith, first, later)

-- a new name gets the next number
pub number_of_new : (names : List (List ℕ)) (name : List ℕ) → list_any (bytes_eq name) names ≡ false → number_after names name ≡ length names
number_of_new names name new =
    ap (λ ns. number_of ns name) (cond-false (list_any (bytes_eq name) names) names (names ++ name ∷ []) new)
    ∙ place_behind (bytes_eq name) names name new (equal_itself name)

-- more names only go to the end
grown_by_one : (names : List (List ℕ)) (name : List ℕ) → (more : List (List ℕ)) × (with_name names name ≡ names ++ more)
grown_by_one names name =
    elim (cases_Bool (list_any (bytes_eq name) names)) [
      | inl old ↦ ([], cond-true (list_any (bytes_eq name) names) _ _ old ∙ sym (append-nil names))
      | inr new ↦ (name ∷ [], cond-false (list_any (bytes_eq name) names) _ _ new)
    ]

grown : (names more : List (List ℕ)) → (end : List (List ℕ)) × (fold with_name names more ≡ names ++ end)
grown names [] = ([], sym (append-nil names))
grown names (name ∷ more) =
    let one = grown_by_one names name in
    let rest = grown (with_name names name) more in
    (one.0 ++ rest.0, rest.1 ∙ ap (λ ns. ns ++ rest.0) one.1 ∙ append_assoc names one.0 rest.0)

pub still_passes : (p : List ℕ → Bool) (names more : List (List ℕ)) → list_any p names ≡ true → list_any p (fold with_name names more) ≡ true
still_passes p names more some =
    let end = grown names more in
    ap (list_any p) end.1 ∙ list_any-append p names end.0 ∙ or_left (list_any p names) (list_any p end.0) some

-- a name is among those that it was added to
pub has_name : (names : List (List ℕ)) (name : List ℕ) → list_any (bytes_eq name) (with_name names name) ≡ true
has_name names name =
    elim (cases_Bool (list_any (bytes_eq name) names)) [
      | inl old ↦ ap (list_any (bytes_eq name)) (cond-true (list_any (bytes_eq name) names) _ _ old) ∙ old
      | inr new ↦
          ap (list_any (bytes_eq name)) (cond-false (list_any (bytes_eq name) names) _ _ new)
          ∙ list_any-append (bytes_eq name) names (name ∷ [])
          ∙ or_right (list_any (bytes_eq name) names) (list_any (bytes_eq name) (name ∷ [])) (or_left (bytes_eq name name) false (equal_itself name))
    ]

pub still_has_name : (names more : List (List ℕ)) (name : List ℕ) → list_any (bytes_eq name) (fold with_name (with_name names name) more) ≡ true
still_has_name names more name = still_passes (bytes_eq name) (with_name names name) more (has_name names name)

-- a name keeps its number, whatever names come later
pub number_stays : (names more : List (List ℕ)) (name : List ℕ) → list_any (bytes_eq name) names ≡ true → number_of (fold with_name names more) name ≡ number_of names name
number_stays names more name some =
    let end = grown names more in
    ap (λ ns. number_of ns name) end.1 ∙ place_in_front (bytes_eq name) names end.0 some
