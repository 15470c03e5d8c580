-- Two lists of pairs merged, and one raised to another.
use Rattle.std.proofs.Common.{◌≡◌, ◌≢◌, ◌<◌, ◌≤◌, ◌+◌, ℕ, zero, suc, List, [], ◌∷◌, ◌++◌, length, get_or, take, drop, set, max, arith, sym, ◌∙◌, ap, subst, refl, inl, inr, ⊎_elim, ◌⊎◌, Some, append_assoc, append-nil}
use Rattle.std.specs.Prelude.{slice_get, ◌==◌, if◌then◌else◌, nat_lt}
use Rattle.std.proofs.lemmas.Bool.{cases_eq, cases_lt, eq-eqb, ne_eqb, lt-ltb, le-ltb, cond-true, cond-false}
use Rattle.std.proofs.lemmas.List.{drop_all}
use Rattle.std.proofs.lemmas.Option.{same_Some, slice_get-get_or, slice_get_within}
use Rattle.aero_clock.specs.Pairs.{number_in, IsRising, HasNoZero, IsPlace, Covers, LeadsWith, raised_to, merge}
use Rattle.aero_clock.proofs.Lists.{number_some, rising_tail, number_first, number_later, number_none, number_found, nowhere, stands_at, place_holds}

-- the list rises from thread l on, without zeros
pub data Above : ℕ → List (ℕ × ℕ) → Type 0 where
  none : {l : ℕ} → Above l []
  more : {l : ℕ} (p : ℕ × ℕ) (ps : List (ℕ × ℕ)) → l ≤ p.0 → 0 < p.1 → Above (suc p.0) ps → Above l (p ∷ ps)

pub above_less : (l m : ℕ) (ps : List (ℕ × ℕ)) → m ≤ l → Above l ps → Above m ps
above_less l m [] le none = none
above_less l m (p ∷ ps) le (more _ _ at some rest) = more p ps (omega (arith, le, at)) some rest

pub above_from : (l : ℕ) (ps : List (ℕ × ℕ)) → IsRising ps → HasNoZero ps → ((i : ℕ) (p : ℕ × ℕ) → slice_get ps i ≡ Some p → l ≤ p.0) → Above l ps
above_from l [] rising nonzero all = none
above_from l (p ∷ ps) rising nonzero all = more p ps (all 0 p refl) (nonzero 0 p refl)
    (above_from (suc p.0) ps (rising_tail p ps rising) (λ i q at. nonzero (suc i) q at) (λ i q at. omega (arith, rising 0 (suc i) p q (omega arith) refl at)))

pub above_all : (l : ℕ) (ps : List (ℕ × ℕ)) → Above l ps → (i : ℕ) (p : ℕ × ℕ) → slice_get ps i ≡ Some p → l ≤ p.0
above_all l [] none i p at = cc
above_all l (q ∷ ps) (more _ _ least some rest) zero p at = subst (λ (r : ℕ × ℕ). l ≤ r.0) (same_Some q p at) least
above_all l (q ∷ ps) (more _ _ least some rest) (suc i) p at = omega (arith, least, above_all (suc q.0) ps rest i p at)

pub above_nonzero : (l : ℕ) (ps : List (ℕ × ℕ)) → Above l ps → HasNoZero ps
above_nonzero l [] none i p at = cc
above_nonzero l (q ∷ ps) (more _ _ least some rest) zero p at = subst (λ (r : ℕ × ℕ). 0 < r.1) (same_Some q p at) some
above_nonzero l (q ∷ ps) (more _ _ least some rest) (suc i) p at = above_nonzero (suc q.0) ps rest i p at

pub above_rising : (l : ℕ) (ps : List (ℕ × ℕ)) → Above l ps → IsRising ps
above_rising l [] none i j p q less at_i at_j = cc
above_rising l (r ∷ ps) (more _ _ least some rest) i zero p q less at_i at_j = absurd (omega (arith, less))
above_rising l (r ∷ ps) (more _ _ least some rest) zero (suc j) p q less at_i at_j =
    let same : r.0 ≡ p.0 = ap (λ (x : ℕ × ℕ). x.0) (same_Some r p at_i) in
    omega (arith, same, above_all (suc r.0) ps rest j q at_j)
above_rising l (r ∷ ps) (more _ _ least some rest) (suc i) (suc j) p q less at_i at_j = above_rising (suc r.0) ps rest i j p q (omega (arith, less)) at_i at_j

-- the steps of a merge

pub merge_nil : (ps : List (ℕ × ℕ)) → merge ps [] ≡ ps
merge_nil [] = refl
merge_nil (p ∷ ps) = ap (λ (xs : List (ℕ × ℕ)). p ∷ xs) (merge_nil ps)

pub merge_left : (p q : ℕ × ℕ) (ps qs : List (ℕ × ℕ)) → p.0 < q.0 → merge (p ∷ ps) (q ∷ qs) ≡ p ∷ merge ps (q ∷ qs)
merge_left p q ps qs less = cond-true (nat_lt p.0 q.0) _ _ (lt-ltb p.0 q.0 less)

pub merge_right : (p q : ℕ × ℕ) (ps qs : List (ℕ × ℕ)) → q.0 < p.0 → merge (p ∷ ps) (q ∷ qs) ≡ q ∷ merge (p ∷ ps) qs
merge_right p q ps qs less = cond-false (nat_lt p.0 q.0) _ _ (le-ltb p.0 q.0 (omega (arith, less))) ∙ cond-true (nat_lt q.0 p.0) _ _ (lt-ltb q.0 p.0 less)

pub merge_both : (p q : ℕ × ℕ) (ps qs : List (ℕ × ℕ)) → p.0 ≡ q.0 → merge (p ∷ ps) (q ∷ qs) ≡ (p.0, max p.1 q.1) ∷ merge ps qs
merge_both p q ps qs same = cond-false (nat_lt p.0 q.0) _ _ (le-ltb p.0 q.0 (omega (arith, same))) ∙ cond-false (nat_lt q.0 p.0) _ _ (le-ltb q.0 p.0 (omega (arith, same)))

pub merge_above : (l : ℕ) (ps qs : List (ℕ × ℕ)) → Above l ps → Above l qs → Above l (merge ps qs)
merge_above l [] qs a b = b
merge_above l (p ∷ ps) [] a b = subst (Above l) (sym (merge_nil (p ∷ ps))) a
merge_above l (p ∷ ps) (q ∷ qs) (more _ _ least some rest) (more _ _ least_q some_q rest_q) = go (cases_lt p.0 q.0)
    (λ less. merge_above (suc p.0) ps (q ∷ qs) rest (more q qs (omega (arith, less)) some_q rest_q))
    (λ less. merge_above (suc q.0) (p ∷ ps) qs (more p ps (omega (arith, less)) some rest) rest_q)
    (λ same. merge_above (suc p.0) ps qs rest (subst (λ m. Above (suc m) qs) (sym same) rest_q))
  where
    go : (p.0 < q.0) ⊎ (q.0 ≤ p.0) → (p.0 < q.0 → Above (suc p.0) (merge ps (q ∷ qs))) → (q.0 < p.0 → Above (suc q.0) (merge (p ∷ ps) qs)) → (p.0 ≡ q.0 → Above (suc p.0) (merge ps qs))
        → Above l (merge (p ∷ ps) (q ∷ qs))
    go (inl less) left right both = subst (Above l) (sym (merge_left p q ps qs less)) (more p (merge ps (q ∷ qs)) least some (left less))
    go (inr le) left right both = ⊎_elim
        (λ less. subst (Above l) (sym (merge_right p q ps qs less)) (more q (merge (p ∷ ps) qs) least_q some_q (right less)))
        (λ back. let same : p.0 ≡ q.0 = omega (arith, le, back) in subst (Above l) (sym (merge_both p q ps qs same)) (more (p.0, max p.1 q.1) (merge ps qs) least (omega (arith, some)) (both same)))
        (cases_lt q.0 p.0)

-- a thread below all of the list's has no number there
pub above_zero : (l : ℕ) (ps : List (ℕ × ℕ)) (t : ℕ) → Above l ps → t < l → number_in ps t ≡ 0
above_zero l ps t above less = number_none ps t (λ i p at e. omega (arith, less, e, above_all l ps above i p at))

pub number_merge : (l : ℕ) (ps qs : List (ℕ × ℕ)) (t : ℕ) → Above l ps → Above l qs → number_in (merge ps qs) t ≡ max (number_in ps t) (number_in qs t)
number_merge l [] qs t a b = omega arith
number_merge l (p ∷ ps) [] t a b = ap (λ xs. number_in xs t) (merge_nil (p ∷ ps)) ∙ omega arith
number_merge l (p ∷ ps) (q ∷ qs) t (more _ _ least some rest) (more _ _ least_q some_q rest_q) = go (cases_lt p.0 q.0)
    (λ less. number_merge (suc p.0) ps (q ∷ qs) t rest (more q qs (omega (arith, less)) some_q rest_q))
    (λ less. number_merge (suc q.0) (p ∷ ps) qs t (more p ps (omega (arith, less)) some rest) rest_q)
    (λ same. number_merge (suc p.0) ps qs t rest (subst (λ m. Above (suc m) qs) (sym same) rest_q))
  where
    left_step : p.0 < q.0 → number_in (merge ps (q ∷ qs)) t ≡ max (number_in ps t) (number_in (q ∷ qs) t) → number_in (merge (p ∷ ps) (q ∷ qs)) t ≡ max (number_in (p ∷ ps) t) (number_in (q ∷ qs) t)
    left_step less on = ap (λ xs. number_in xs t) (merge_left p q ps qs less) ∙ ⊎_elim
        (λ (e : p.0 ≡ t).
        let none : number_in (q ∷ qs) t ≡ 0 = above_zero q.0 (q ∷ qs) t (more q qs (omega arith) some_q rest_q) (omega (arith, e, less)) in
        number_first p (merge ps (q ∷ qs)) t e ∙ omega (arith, none, number_first p ps t e))
        (λ ne. number_later p (merge ps (q ∷ qs)) t ne ∙ on ∙ ap (λ m. max m (number_in (q ∷ qs) t)) (sym (number_later p ps t ne)))
        (cases_eq p.0 t)

    right_step : q.0 < p.0 → number_in (merge (p ∷ ps) qs) t ≡ max (number_in (p ∷ ps) t) (number_in qs t) → number_in (merge (p ∷ ps) (q ∷ qs)) t ≡ max (number_in (p ∷ ps) t) (number_in (q ∷ qs) t)
    right_step less on = ap (λ xs. number_in xs t) (merge_right p q ps qs less) ∙ ⊎_elim
        (λ (e : q.0 ≡ t).
        let none : number_in (p ∷ ps) t ≡ 0 = above_zero p.0 (p ∷ ps) t (more p ps (omega arith) some rest) (omega (arith, e, less)) in
        number_first q (merge (p ∷ ps) qs) t e ∙ omega (arith, none, number_first q qs t e))
        (λ ne. number_later q (merge (p ∷ ps) qs) t ne ∙ on ∙ ap (λ m. max (number_in (p ∷ ps) t) m) (sym (number_later q qs t ne)))
        (cases_eq q.0 t)

    both_step : p.0 ≡ q.0 → number_in (merge ps qs) t ≡ max (number_in ps t) (number_in qs t) → number_in (merge (p ∷ ps) (q ∷ qs)) t ≡ max (number_in (p ∷ ps) t) (number_in (q ∷ qs) t)
    both_step same on = ap (λ xs. number_in xs t) (merge_both p q ps qs same) ∙ ⊎_elim
        (λ (e : p.0 ≡ t). number_first (p.0, max p.1 q.1) (merge ps qs) t e ∙ omega (arith, number_first p ps t e, number_first q qs t (sym same ∙ e)))
        (λ ne. number_later (p.0, max p.1 q.1) (merge ps qs) t ne ∙ on ∙ omega (arith, number_later p ps t ne, number_later q qs t (λ e. ne (same ∙ e))))
        (cases_eq p.0 t)

    go : (p.0 < q.0) ⊎ (q.0 ≤ p.0) → (p.0 < q.0 → number_in (merge ps (q ∷ qs)) t ≡ max (number_in ps t) (number_in (q ∷ qs) t)) → (q.0 < p.0 → number_in (merge (p ∷ ps) qs) t ≡ max (number_in (p ∷ ps) t) (number_in qs t)) → (p.0 ≡ q.0 → number_in (merge ps qs) t ≡ max (number_in ps t) (number_in qs t))
        → number_in (merge (p ∷ ps) (q ∷ qs)) t ≡ max (number_in (p ∷ ps) t) (number_in (q ∷ qs) t)
    go (inl less) left right both = left_step less (left less)
    go (inr le) left right both = ⊎_elim
        (λ less. right_step less (right less))
        (λ back. let same : p.0 ≡ q.0 = omega (arith, le, back) in both_step same (both same))
        (cases_lt q.0 p.0)

-- what is left at the end of a merge
pub merged_end : (ps qs : List (ℕ × ℕ)) → (ps ≡ []) ⊎ (qs ≡ []) → merge ps qs ≡ ps ++ qs
merged_end ps qs (inl e) = ap (λ xs. merge xs qs) e ∙ ap (λ xs. xs ++ qs) (sym e)
merged_end ps qs (inr e) = ap (merge ps) e ∙ merge_nil ps ∙ sym (append-nil ps) ∙ ap (λ xs. ps ++ xs) (sym e)

pub merged_whole : (all ps qs : List (ℕ × ℕ)) (i j : ℕ) → all ++ merge (drop i ps) (drop j qs) ≡ merge ps qs → (length ps ≤ i) ⊎ (length qs ≤ j) → (all ++ drop i ps) ++ drop j qs ≡ merge ps qs
merged_whole all ps qs i j so_far ends =
    append_assoc all (drop i ps) (drop j qs)
    ∙ ap (λ xs. all ++ xs) (sym (merged_end (drop i ps) (drop j qs) (⊎_elim (λ h. inl (drop_all i ps h)) (λ h. inr (drop_all j qs h)) ends)))
    ∙ so_far

-- a list raised to another

abbrev pub raised_pair : List (ℕ × ℕ) → ℕ × ℕ → ℕ × ℕ
raised_pair qs p = (p.0, max p.1 (number_in qs p.0))

pub raised_above : (l : ℕ) (qs ps : List (ℕ × ℕ)) → Above l ps → Above l (raised_to qs ps)
raised_above l qs [] none = none
raised_above l qs (p ∷ ps) (more _ _ least some rest) = more (raised_pair qs p) (raised_to qs ps) least (omega (arith, some)) (raised_above (suc p.0) qs ps rest)

pub number_raised : (l : ℕ) (qs ps : List (ℕ × ℕ)) (t : ℕ) → Above l ps → 0 < number_in ps t → number_in (raised_to qs ps) t ≡ max (number_in ps t) (number_in qs t)
number_raised l qs [] t above some = absurd (omega (arith, some))
number_raised l qs (p ∷ ps) t (more _ _ least one rest) some = go (number_raised (suc p.0) qs ps t rest) (cases_eq p.0 t)
  where
    go : (0 < number_in ps t → number_in (raised_to qs ps) t ≡ max (number_in ps t) (number_in qs t)) → (p.0 ≡ t) ⊎ (p.0 ≢ t) → number_in (raised_to qs (p ∷ ps)) t ≡ max (number_in (p ∷ ps) t) (number_in qs t)
    go on (inl e) =
        number_first (raised_pair qs p) (raised_to qs ps) t e ∙ ap (λ u. max p.1 (number_in qs u)) e ∙ ap (λ m. max m (number_in qs t)) (sym (number_first p ps t e))
    go on (inr ne) =
        let later : number_in (p ∷ ps) t ≡ number_in ps t = number_later p ps t ne in
        number_later (raised_pair qs p) (raised_to qs ps) t ne ∙ on (omega (arith, some, later)) ∙ ap (λ m. max m (number_in qs t)) (sym later)

pub raised_none : (l : ℕ) (qs ps : List (ℕ × ℕ)) (t : ℕ) → Above l ps → number_in ps t ≡ 0 → number_in (raised_to qs ps) t ≡ 0
raised_none l qs [] t above zero_here = refl
raised_none l qs (p ∷ ps) t (more _ _ least one rest) zero_here = go (raised_none (suc p.0) qs ps t rest) (cases_eq p.0 t)
  where
    go : (number_in ps t ≡ 0 → number_in (raised_to qs ps) t ≡ 0) → (p.0 ≡ t) ⊎ (p.0 ≢ t) → number_in (raised_to qs (p ∷ ps)) t ≡ 0
    go on (inl e) = absurd (omega (arith, one, zero_here, number_first p ps t e))
    go on (inr ne) =
        let later : number_in (p ∷ ps) t ≡ number_in ps t = number_later p ps t ne in
        number_later (raised_pair qs p) (raised_to qs ps) t ne ∙ on (omega (arith, zero_here, later))

pub number_covered : (l : ℕ) (qs ps : List (ℕ × ℕ)) (t : ℕ) → Above l ps → Covers ps qs → number_in (raised_to qs ps) t ≡ max (number_in ps t) (number_in qs t)
number_covered l qs ps t above covers = ⊎_elim
    (λ some. number_raised l qs ps t above some)
    (λ le.
    let none : number_in ps t ≡ 0 = omega (arith, le) in
    let nothing : number_in qs t ≤ 0 = ⊎_elim (λ there. let r = number_found qs t there in absurd (omega (arith, none, covers.at r.0 (t, number_in qs t) r.1))) (λ (h : number_in qs t ≤ 0). h) (cases_lt 0 (number_in qs t)) in
    raised_none l qs ps t above none ∙ omega (arith, none, nothing))
    (cases_lt 0 (number_in ps t))

-- one more place of it
pub raised_front : (qs ps : List (ℕ × ℕ)) (i : ℕ) → i < length ps → get_or (raised_to qs (take i ps) ++ drop i ps) i (0, 0) ≡ get_or ps i (0, 0)
raised_front qs [] i within = absurd (omega (arith, within))
raised_front qs (p ∷ ps) zero within = refl
raised_front qs (p ∷ ps) (suc i) within = raised_front qs ps i (omega (arith, within))

pub raised_step : (qs ps : List (ℕ × ℕ)) (i : ℕ) → i < length ps → set (raised_to qs (take i ps) ++ drop i ps) i (raised_pair qs (get_or ps i (0, 0))) ≡ raised_to qs (take (suc i) ps) ++ drop (suc i) ps
raised_step qs [] i within = absurd (omega (arith, within))
raised_step qs (p ∷ ps) zero within = refl
raised_step qs (p ∷ ps) (suc i) within = ap (λ (xs : List (ℕ × ℕ)). raised_pair qs p ∷ xs) (raised_step qs ps i (omega (arith, within)))

-- a list with one more at a thread

pub insert_merges : (ps : List (ℕ × ℕ)) (i t : ℕ) → i ≤ length ps → ((k : ℕ) (p : ℕ × ℕ) → k < i → slice_get ps k ≡ Some p → p.0 < t) → ((k : ℕ) (p : ℕ × ℕ) → i ≤ k → slice_get ps k ≡ Some p → t < p.0)
    → take i ps ++ (t, 1) ∷ drop i ps ≡ merge ps ((t, 1) ∷ [])
insert_merges [] zero t within below above = refl
insert_merges [] (suc i) t within below above = absurd (omega (arith, within))
insert_merges (p ∷ ps) zero t within below above = sym (merge_right p (t, 1) ps [] (above 0 p (omega arith) refl) ∙ ap (λ (xs : List (ℕ × ℕ)). (t, 1) ∷ xs) (merge_nil (p ∷ ps)))
insert_merges (p ∷ ps) (suc i) t within below above =
    ap (λ (xs : List (ℕ × ℕ)). p ∷ xs) (insert_merges ps i t (omega (arith, within)) (λ k q less at. below (suc k) q (omega (arith, less)) at) (λ k q le at. above (suc k) q (omega (arith, le)) at))
    ∙ sym (merge_left p (t, 1) ps [] (below 0 p (omega arith) refl))

pub set_merges : (ps : List (ℕ × ℕ)) (i n t : ℕ) → IsRising ps → i < length ps → (get_or ps i (0, 0)).0 ≡ t → (get_or ps i (0, 0)).1 ≤ n
    → set ps i (t, n) ≡ merge ps ((t, n) ∷ [])
set_merges [] i n t rising within same le = absurd (omega (arith, within))
set_merges (p ∷ ps) zero n t rising within same le =
    sym (merge_both p (t, n) ps [] same ∙ ap (λ (xs : List (ℕ × ℕ)). (p.0, max p.1 n) ∷ xs) (merge_nil ps) ∙ ap (λ m. (p.0, m) ∷ ps) (omega (arith, le)) ∙ ap (λ u. (u, n) ∷ ps) same)
set_merges (p ∷ ps) (suc i) n t rising within same le =
    let there = slice_get-get_or ps i (0, 0) (omega (arith, within)) in
    let less : p.0 < t = omega (arith, same, rising 0 (suc i) p (get_or ps i (0, 0)) (omega arith) refl there) in
    ap (λ (xs : List (ℕ × ℕ)). p ∷ xs) (set_merges ps i n t (rising_tail p ps rising) (omega (arith, within)) same le) ∙ sym (merge_left p (t, n) ps [] less)

-- what is left after each change to a list of a clock

module _ (ps qs : List (ℕ × ℕ)) (rising : IsRising ps) (nonzero : HasNoZero ps) where
  above : Above 0 ps
  above = above_from 0 ps rising nonzero (λ i p at. omega arith)

  -- merged with another
  module _ (other : IsRising qs) (other_nonzero : HasNoZero qs) where
    above_qs : Above 0 qs
    above_qs = above_from 0 qs other other_nonzero (λ i p at. omega arith)

    pub merge_rising : IsRising (merge ps qs)
    merge_rising = above_rising 0 (merge ps qs) (merge_above 0 ps qs above above_qs)

    pub merge_nonzero : HasNoZero (merge ps qs)
    merge_nonzero = above_nonzero 0 (merge ps qs) (merge_above 0 ps qs above above_qs)

    pub merge_number : (t : ℕ) → number_in (merge ps qs) t ≡ max (number_in ps t) (number_in qs t)
    merge_number t = number_merge 0 ps qs t above above_qs

  -- raised to it
  pub raised_rising : IsRising (raised_to qs ps)
  raised_rising = above_rising 0 (raised_to qs ps) (raised_above 0 qs ps above)

  pub raised_nonzero : HasNoZero (raised_to qs ps)
  raised_nonzero = above_nonzero 0 (raised_to qs ps) (raised_above 0 qs ps above)

  pub raised_number : Covers ps qs → (t : ℕ) → number_in (raised_to qs ps) t ≡ max (number_in ps t) (number_in qs t)
  raised_number covers t = number_covered 0 qs ps t above covers

-- one pair alone
pub one_rising : (t n : ℕ) → IsRising ((t, n) ∷ [])
one_rising t n = λ i j p q less at_i at_j. absurd (omega (arith, less, within j q at_j))
  where
    within : (j : ℕ) (q : ℕ × ℕ) → slice_get ((t, n) ∷ []) j ≡ Some q → j < 1
    within j q at = slice_get_within ((t, n) ∷ []) j q at

pub one_nonzero : (t n : ℕ) → 0 < n → HasNoZero ((t, n) ∷ [])
one_nonzero t n some zero p at = subst (λ (r : ℕ × ℕ). 0 < r.1) (same_Some (t, n) p at) some
one_nonzero t n some (suc i) p at = cc

-- one more at thread t is a merge with that pair
pub number_one_more : (ps : List (ℕ × ℕ)) (t : ℕ) → IsRising ps → HasNoZero ps → (u : ℕ)
    → number_in (merge ps ((t, number_in ps t + 1) ∷ [])) u ≡ (if u == t then number_in ps u + 1 else number_in ps u)
number_one_more ps t rising nonzero u =
    merge_number ps ((t, number_in ps t + 1) ∷ []) rising nonzero (one_rising t (number_in ps t + 1)) (one_nonzero t (number_in ps t + 1) (omega arith)) u
    ∙ ⊎_elim
    (λ (e : u ≡ t).
    let there : number_in ((t, number_in ps t + 1) ∷ []) u ≡ number_in ps t + 1 = number_first (t, number_in ps t + 1) [] u (sym e) in
    let same : number_in ps u ≡ number_in ps t = ap (number_in ps) e in
    omega (arith, there, same) ∙ sym (cond-true (u == t) _ _ (eq-eqb u t e)))
    (λ ne.
    let there : number_in ((t, number_in ps t + 1) ∷ []) u ≡ 0 = number_later (t, number_in ps t + 1) [] u (λ e. ne (sym e)) in
    omega (arith, there) ∙ sym (cond-false (u == t) _ _ (ne_eqb u t ne)))
    (cases_eq u t)

-- a list that is this merge has what a raise leaves
pub record IsOneMore (ps : List (ℕ × ℕ)) (t : ℕ) (new : List (ℕ × ℕ)) : Type 0 where
  pub number : (u : ℕ) → number_in new u ≡ (if u == t then number_in ps u + 1 else number_in ps u)
  pub rising : IsRising new
  pub nonzero : HasNoZero new

pub one_more : (ps : List (ℕ × ℕ)) (t n : ℕ) (new : List (ℕ × ℕ)) → IsRising ps → HasNoZero ps → n ≡ number_in ps t + 1 → new ≡ merge ps ((t, n) ∷ []) → IsOneMore ps t new
one_more ps t n new rising nonzero next same =
    let now : new ≡ merge ps ((t, number_in ps t + 1) ∷ []) = same ∙ ap (λ m. merge ps ((t, m) ∷ [])) next in
    subst (IsOneMore ps t) (sym now) (record {
      number = number_one_more ps t rising nonzero;
      rising = merge_rising ps ((t, number_in ps t + 1) ∷ []) rising nonzero (one_rising t (number_in ps t + 1)) (one_nonzero t (number_in ps t + 1) (omega arith));
      nonzero = merge_nonzero ps ((t, number_in ps t + 1) ∷ []) rising nonzero (one_rising t (number_in ps t + 1)) (one_nonzero t (number_in ps t + 1) (omega arith));
    })

pub inserted : (ps new : List (ℕ × ℕ)) (t at : ℕ) → IsRising ps → HasNoZero ps → IsPlace ps t at → number_in ps t ≡ 0 → new ≡ take at ps ++ (t, 1) ∷ drop at ps → IsOneMore ps t new
inserted ps new t at rising nonzero place nothing is =
    one_more ps t 1 new rising nonzero (omega (arith, nothing))
    (is ∙ insert_merges ps at t place.within place.below (λ k p le found. let ne = nowhere ps t rising nonzero nothing k p found in omega (arith, place.above k p le found, λ (e : p.0 ≡ t). ne e)))

pub counted : (ps new : List (ℕ × ℕ)) (u t at n : ℕ) → IsRising ps → HasNoZero ps → IsPlace ps t at → number_in ps t ≡ n → 0 < n → u ≡ (get_or ps at (0, 0)).0 → new ≡ set ps at (u, n + 1) → IsOneMore ps t new
counted ps new u t at n rising nonzero place number some thread is =
    let there = stands_at ps t at rising place (omega (arith, number, some)) in
    let old : (get_or ps at (0, 0)).1 ≡ number_in ps t = place_holds ps t at rising there.0 there.1 in
    one_more ps t (n + 1) new rising nonzero (omega (arith, number))
    (is ∙ ap (λ v. set ps at (v, n + 1)) (thread ∙ there.1) ∙ set_merges ps at (n + 1) t rising there.0 there.1 (omega (arith, old, number)))

-- a list that is the two merged, or this one raised to the other, has what a join leaves
pub record IsJoined (ps qs new : List (ℕ × ℕ)) : Type 0 where
  pub number : (t : ℕ) → number_in new t ≡ max (number_in ps t) (number_in qs t)
  pub rising : IsRising new
  pub nonzero : HasNoZero new

pub joined_merge : (ps qs new : List (ℕ × ℕ)) → IsRising ps → HasNoZero ps → IsRising qs → HasNoZero qs → new ≡ merge ps qs → IsJoined ps qs new
joined_merge ps qs new a b c d is = subst (IsJoined ps qs) (sym is) (record { number = merge_number ps qs a b c d; rising = merge_rising ps qs a b c d; nonzero = merge_nonzero ps qs a b c d })

pub joined_raised : (ps qs new : List (ℕ × ℕ)) → IsRising ps → HasNoZero ps → Covers ps qs → new ≡ raised_to qs ps → IsJoined ps qs new
joined_raised ps qs new a b covers is = subst (IsJoined ps qs) (sym is) (record { number = raised_number ps qs a b covers; rising = raised_rising ps qs a b; nonzero = raised_nonzero ps qs a b })

-- a list that leads with another's threads covers it
pub front_covers : (ps qs : List (ℕ × ℕ)) → IsRising ps → HasNoZero ps → LeadsWith ps qs → Covers ps qs
front_covers ps qs rising nonzero front = record {
  at = λ j q at_q.
      let within : j < length qs = slice_get_within qs j q at_q in
      let at_p = slice_get-get_or ps j (0, 0) (omega (arith, within, front.within)) in
      let same : (get_or ps j (0, 0)).0 ≡ q.0 = front.at j (get_or ps j (0, 0)) q at_p at_q in
      let here : number_in ps (get_or ps j (0, 0)).0 ≡ (get_or ps j (0, 0)).1 = number_some ps j (get_or ps j (0, 0)) rising at_p in
      let there : number_in ps (get_or ps j (0, 0)).0 ≡ number_in ps q.0 = ap (number_in ps) same in
      omega (arith, here, there, nonzero j (get_or ps j (0, 0)) at_p);
}

-- what stands in the same place has the same thread
pub front_number : (ps qs : List (ℕ × ℕ)) (i : ℕ) → IsRising qs → LeadsWith ps qs → i < length qs → number_in qs (get_or ps i (0, 0)).0 ≡ (get_or qs i (0, 0)).1
front_number ps qs i other front within =
    let at_q = slice_get-get_or qs i (0, 0) within in
    let at_p = slice_get-get_or ps i (0, 0) (omega (arith, within, front.within)) in
    ap (number_in qs) (front.at i (get_or ps i (0, 0)) (get_or qs i (0, 0)) at_p at_q) ∙ number_some qs i (get_or qs i (0, 0)) other at_q

-- and what stands behind has another
pub front_rest : (ps qs : List (ℕ × ℕ)) → IsRising ps → LeadsWith ps qs → (k : ℕ) (p : ℕ × ℕ) → length qs ≤ k → slice_get ps k ≡ Some p → number_in qs p.0 ≡ 0
front_rest ps qs rising front k p behind at_k = number_none qs p.0 (λ i q at_i e.
    let within : i < length qs = slice_get_within qs i q at_i in
    let at_p = slice_get-get_or ps i (0, 0) (omega (arith, within, front.within)) in
    omega (arith, e, front.at i (get_or ps i (0, 0)) q at_p at_i, rising i k (get_or ps i (0, 0)) p (omega (arith, within, behind)) at_p at_k))

pub raised_end : (qs ps : List (ℕ × ℕ)) (i : ℕ) → ((k : ℕ) (p : ℕ × ℕ) → i ≤ k → slice_get ps k ≡ Some p → number_in qs p.0 ≡ 0) → raised_to qs (take i ps) ++ drop i ps ≡ raised_to qs ps
raised_end qs [] zero none_there = refl
raised_end qs [] (suc i) none_there = refl
raised_end qs (p ∷ ps) zero none_there =
    let zero_here : number_in qs p.0 ≡ 0 = none_there 0 p (omega arith) refl in
    let number : p.1 ≡ max p.1 (number_in qs p.0) = omega (arith, zero_here) in
    ap (λ m. (p.0, m) ∷ ps) number ∙ ap (λ (xs : List (ℕ × ℕ)). raised_pair qs p ∷ xs) (raised_end qs ps zero (λ k q le at. none_there (suc k) q (omega arith) at))
raised_end qs (p ∷ ps) (suc i) none_there = ap (λ (xs : List (ℕ × ℕ)). raised_pair qs p ∷ xs) (raised_end qs ps i (λ k q le at. none_there (suc k) q (omega (arith, le)) at))
