-- Numbers in a list of pairs that rises by thread.
use Rattle.std.proofs.Common.{◌≡◌, ◌≢◌, ◌<◌, ◌≤◌, ℕ, zero, suc, List, [], ◌∷◌, length, get_or, arith, sym, ◌∙◌, ap, subst, refl, inl, inr, ⊎_elim, ◌⊎◌, Some}
use Rattle.std.specs.Prelude.{slice_get, ◌==◌}
use Rattle.std.proofs.lemmas.Bool.{cases_eq, cases_lt, eq-eqb, ne_eqb, cond-true, cond-false}
use Rattle.std.proofs.lemmas.Option.{slice_get-get_or, slice_get_within, same_Some}
use Rattle.aero_clock.specs.Pairs.{number_in, IsRising, HasNoZero, IsPlace}

pub rising_tail : (p : ℕ × ℕ) (ps : List (ℕ × ℕ)) → IsRising (p ∷ ps) → IsRising ps
rising_tail p ps h = λ i j x y less at_i at_j. h (suc i) (suc j) x y (omega (arith, less)) at_i at_j

pub number_first : (p : ℕ × ℕ) (ps : List (ℕ × ℕ)) (t : ℕ) → p.0 ≡ t → number_in (p ∷ ps) t ≡ p.1
number_first p ps t e = cond-true (p.0 == t) _ _ (eq-eqb p.0 t e)

pub number_later : (p : ℕ × ℕ) (ps : List (ℕ × ℕ)) (t : ℕ) → p.0 ≢ t → number_in (p ∷ ps) t ≡ number_in ps t
number_later p ps t ne = cond-false (p.0 == t) _ _ (ne_eqb p.0 t ne)

-- a thread that stands nowhere has 0
pub number_none : (ps : List (ℕ × ℕ)) (t : ℕ) → ((i : ℕ) (p : ℕ × ℕ) → slice_get ps i ≡ Some p → p.0 ≢ t) → number_in ps t ≡ 0
number_none [] t none = refl
number_none (p ∷ ps) t none = number_later p ps t (none 0 p refl) ∙ number_none ps t (λ i q at. none (suc i) q at)

-- one that stands somewhere has its number
pub number_some : (ps : List (ℕ × ℕ)) (i : ℕ) (p : ℕ × ℕ) → IsRising ps → slice_get ps i ≡ Some p → number_in ps p.0 ≡ p.1
number_some [] i p rising at = cc
number_some (q ∷ ps) zero p rising at =
    let same : q ≡ p = same_Some q p at in
    number_first q ps p.0 (ap (λ (r : ℕ × ℕ). r.0) same) ∙ ap (λ (r : ℕ × ℕ). r.1) same
number_some (q ∷ ps) (suc i) p rising at =
    let less : q.0 < p.0 = rising 0 (suc i) q p (omega arith) refl at in
    number_later q ps p.0 (omega (arith, less)) ∙ number_some ps i p (rising_tail q ps rising) at

-- and where the number isn't 0 it stands somewhere
pub number_found : (ps : List (ℕ × ℕ)) (t : ℕ) → 0 < number_in ps t → (i : ℕ) × (slice_get ps i ≡ Some (t, number_in ps t))
number_found [] t some = absurd (omega (arith, some))
number_found (p ∷ ps) t some = go (number_found ps t) (cases_eq p.0 t)
  where
    go : (0 < number_in ps t → (i : ℕ) × (slice_get ps i ≡ Some (t, number_in ps t))) → (p.0 ≡ t) ⊎ (p.0 ≢ t) → (i : ℕ) × (slice_get (p ∷ ps) i ≡ Some (t, number_in (p ∷ ps) t))
    go rest (inl e) = (0, ap (λ (u : ℕ). Some (u, p.1)) e ∙ ap (λ (n : ℕ). Some (t, n)) (sym (number_first p ps t e)))
    go rest (inr ne) =
        let later : number_in (p ∷ ps) t ≡ number_in ps t = number_later p ps t ne in
        let r = rest (omega (arith, some, later)) in
        (suc r.0, r.1 ∙ ap (λ (n : ℕ). Some (t, n)) (sym later))

-- what is read at a thread's place

pub place_holds : (ps : List (ℕ × ℕ)) (t at : ℕ) → IsRising ps → at < length ps → (get_or ps at (0, 0)).0 ≡ t → (get_or ps at (0, 0)).1 ≡ number_in ps t
place_holds ps t at rising within same =
    sym (subst (λ u. number_in ps u ≡ (get_or ps at (0, 0)).1) same (number_some ps at (get_or ps at (0, 0)) rising (slice_get-get_or ps at (0, 0) within)))

pub place_differs : (ps : List (ℕ × ℕ)) (t at : ℕ) → IsRising ps → IsPlace ps t at → at < length ps → (get_or ps at (0, 0)).0 ≢ t → number_in ps t ≡ 0
place_differs ps t at rising place within differs = number_none ps t nowhere
  where
    here : slice_get ps at ≡ Some (get_or ps at (0, 0))
    here = slice_get-get_or ps at (0, 0) within

    nowhere : (i : ℕ) (p : ℕ × ℕ) → slice_get ps i ≡ Some p → p.0 ≢ t
    nowhere i p found e = ⊎_elim
        (λ less. omega (arith, e, place.below i p less found))
        (λ more. ⊎_elim
        (λ (same : at ≡ i).
        let one : get_or ps at (0, 0) ≡ p = same_Some _ p (sym here ∙ ap (slice_get ps) same ∙ found) in
        differs (ap (λ (r : ℕ × ℕ). r.0) one ∙ e))
        (λ other. omega (arith, e, place.above at (get_or ps at (0, 0)) (omega arith) here, rising at i (get_or ps at (0, 0)) p (omega (arith, more, other)) here found))
        (cases_eq at i))
        (cases_lt i at)

pub place_past : (ps : List (ℕ × ℕ)) (t at : ℕ) → IsPlace ps t at → length ps ≤ at → number_in ps t ≡ 0
place_past ps t at place past = number_none ps t (λ i p found e. let within : i < length ps = slice_get_within ps i p found in omega (arith, e, past, within, place.below i p (omega (arith, past, within)) found))

-- a thread that stands in a list has its place there
pub place_of : (ps : List (ℕ × ℕ)) (t at : ℕ) → IsRising ps → at < length ps → (get_or ps at (0, 0)).0 ≡ t → IsPlace ps t at
place_of ps t at rising within same = record {
  within = omega (arith, within);
  below = λ i p less found. omega (arith, same, rising i at p (get_or ps at (0, 0)) less found here);
  above = λ i p more found. ⊎_elim
      (λ (e : at ≡ i). let one : get_or ps at (0, 0) ≡ p = same_Some _ p (sym here ∙ ap (slice_get ps) e ∙ found) in omega (arith, same, ap (λ (r : ℕ × ℕ). r.0) one))
      (λ other. omega (arith, same, rising at i (get_or ps at (0, 0)) p (omega (arith, more, other)) here found))
      (cases_eq at i);
}
  where
    here : slice_get ps at ≡ Some (get_or ps at (0, 0))
    here = slice_get-get_or ps at (0, 0) within

-- the pairs up to one whose thread is below t are below t, those from one whose thread isn't are not
pub all_below : (ps : List (ℕ × ℕ)) (t at : ℕ) → IsRising ps → at < length ps → (get_or ps at (0, 0)).0 < t → (i : ℕ) (p : ℕ × ℕ) → i < suc at → slice_get ps i ≡ Some p → p.0 < t
all_below ps t at rising within less i p before found = ⊎_elim
    (λ (e : at ≡ i). let one : get_or ps at (0, 0) ≡ p = same_Some _ p (sym here ∙ ap (slice_get ps) e ∙ found) in omega (arith, less, ap (λ (r : ℕ × ℕ). r.0) one))
    (λ other. omega (arith, less, rising i at p (get_or ps at (0, 0)) (omega (arith, before, other)) found here))
    (cases_eq at i)
  where
    here : slice_get ps at ≡ Some (get_or ps at (0, 0))
    here = slice_get-get_or ps at (0, 0) within

pub all_above : (ps : List (ℕ × ℕ)) (t at : ℕ) → IsRising ps → at < length ps → t ≤ (get_or ps at (0, 0)).0 → (i : ℕ) (p : ℕ × ℕ) → at ≤ i → slice_get ps i ≡ Some p → t ≤ p.0
all_above ps t at rising within more i p behind found = ⊎_elim
    (λ (e : at ≡ i). let one : get_or ps at (0, 0) ≡ p = same_Some _ p (sym here ∙ ap (slice_get ps) e ∙ found) in omega (arith, more, ap (λ (r : ℕ × ℕ). r.0) one))
    (λ other. omega (arith, more, rising at i (get_or ps at (0, 0)) p (omega (arith, behind, other)) here found))
    (cases_eq at i)
  where
    here : slice_get ps at ≡ Some (get_or ps at (0, 0))
    here = slice_get-get_or ps at (0, 0) within

-- where each pair is at most the other list's number for its thread, each number is
pub all_at_most : (ps qs : List (ℕ × ℕ)) → ((k : ℕ) (q : ℕ × ℕ) → slice_get ps k ≡ Some q → q.1 ≤ number_in qs q.0) → (t : ℕ) → number_in ps t ≤ number_in qs t
all_at_most ps qs all t = ⊎_elim
    (λ some. let r = number_found ps t some in all r.0 (t, number_in ps t) r.1)
    (λ none. omega (arith, none))
    (cases_lt 0 (number_in ps t))

-- a thread with no number stands nowhere in a list without zeros
pub nowhere : (ps : List (ℕ × ℕ)) (t : ℕ) → IsRising ps → HasNoZero ps → number_in ps t ≡ 0 → (i : ℕ) (p : ℕ × ℕ) → slice_get ps i ≡ Some p → p.0 ≢ t
nowhere ps t rising nonzero none i p at e =
    let here : number_in ps p.0 ≡ p.1 = number_some ps i p rising at in
    let same : number_in ps p.0 ≡ number_in ps t = ap (number_in ps) e in
    omega (arith, nonzero i p at, here, same, none)

-- one with a number stands at its place
pub stands_at : (ps : List (ℕ × ℕ)) (t at : ℕ) → IsRising ps → IsPlace ps t at → 0 < number_in ps t → (at < length ps) × ((get_or ps at (0, 0)).0 ≡ t)
stands_at ps t at rising place some = ⊎_elim
    (λ within. (within, ⊎_elim (λ (e : (get_or ps at (0, 0)).0 ≡ t). e) (λ ne. absurd (omega (arith, some, place_differs ps t at rising place within ne))) (cases_eq (get_or ps at (0, 0)).0 t)))
    (λ past. absurd (omega (arith, some, place_past ps t at place past)))
    (cases_lt at (length ps))
