-- How many edges lead to a number from those that are not in the list yet.
use Rattle.std.proofs.Common.{◌≡◌, ◌⊎◌, ℕ, zero, suc, ◌+◌, ◌<◌, ◌==◌, ◌&&◌, ◌||◌, not, Bool, true, false, List, [], ◌∷◌, ◌++◌, inl, inr, refl, sym, ◌∙◌, ap, ap₂, subst, arith}
use Rattle.std.specs.Prelude.{count_by, Contains}
use Rattle.std.proofs.lemmas.Bool.{cases_Bool, cases_eq, or_cases, or_left, or_right, and_parts, and_left, and_right, eq-eqb, eqb-true, ne_eqb, true≢false}
use Rattle.std.proofs.lemmas.List.Sums.{sum_by-append}
use Rattle.std.proofs.lemmas.List.Folds.{list_any-append}
use Rattle.aero_order.specs.Waiting.{Pair, is_in, is_missing, missing_count, is_edge, edge_count, one_if}

pub in_from : (order : List ℕ) (v : ℕ) → Contains order v → is_in order v ≡ true
in_from [] v (k, l, e) = absurd (omega arith)
in_from (w ∷ ws) v (zero, l, e) = or_left (w == v) (is_in ws v) (eq-eqb w v e)
in_from (w ∷ ws) v (suc k, l, e) = or_right (w == v) (is_in ws v) (in_from ws v (k, omega arith, e))

pub from_in : (order : List ℕ) (v : ℕ) → is_in order v ≡ true → Contains order v
from_in [] v h = absurd (true≢false (sym h))
from_in (w ∷ ws) v h = elim (or_cases (w == v) (is_in ws v) h) [
  | inl e ↦ (zero, omega arith, eqb-true w v e)
  | inr r ↦ (let c = from_in ws v r in (suc c.0, omega (arith, c.1), c.2))
]

pub not_in : (order : List ℕ) (v : ℕ) → ¬ Contains order v → is_in order v ≡ false
not_in order v h = elim (cases_Bool (is_in order v)) [ inl e ↦ absurd (h (from_in order v e)) | inr e ↦ e ]

pub in_push : (order : List ℕ) (u v : ℕ) → is_in (order ++ u ∷ []) v ≡ (is_in order v || ((u == v) || false))
in_push order u v = list_any-append (λ w. w == v) order (u ∷ [])

-- counts, an element at a time
pub count_cons : {X : Type 0} (p : X → Bool) (x : X) (xs : List X) → count_by p (x ∷ xs) ≡ one_if (p x) + count_by p xs
count_cons p x xs = let whole : count_by p (x ∷ xs) ≡ (0 + one_if (p x)) + count_by p xs = sum_by-append (λ y. one_if (p y)) (x ∷ []) xs in omega arith

module _ (order : List ℕ) (u : ℕ) (new : is_in order u ≡ false) (v : ℕ) where
  -- an edge is missing, then no more or still, or it comes from u
  one_edge : (e : Pair) → one_if (is_missing order v e) ≡ one_if (is_missing (order ++ u ∷ []) v e) + one_if (is_edge u v e)
  one_edge e = go (cases_Bool (e.1 == v)) (cases_eq e.0 u) (cases_Bool (is_in order e.0))
    where
      after : (b : Bool) → is_in order e.0 ≡ b → (c : Bool) → (u == e.0) ≡ c → is_in (order ++ u ∷ []) e.0 ≡ (b || (c || false))
      after b p c q = in_push order u e.0 ∙ ap₂ (λ x y. x || (y || false)) p q

      go : ((e.1 == v) ≡ true) ⊎ ((e.1 == v) ≡ false) → (e.0 ≡ u) ⊎ (e.0 ≡ u → ⊥) → (is_in order e.0 ≡ true) ⊎ (is_in order e.0 ≡ false) → one_if (is_missing order v e) ≡ one_if (is_missing (order ++ u ∷ []) v e) + one_if (is_edge u v e)
      go (inr f) _ _ =
          let a : one_if (is_missing order v e) ≡ 0 = ap one_if (and_left (e.1 == v) (not (is_in order e.0)) f) in
          let b : one_if (is_missing (order ++ u ∷ []) v e) ≡ 0 = ap one_if (and_left (e.1 == v) (not (is_in (order ++ u ∷ []) e.0)) f) in
          let c : one_if (is_edge u v e) ≡ 0 = ap one_if (and_right (e.0 == u) (e.1 == v) f) in
          omega arith
      go (inl t) (inl same) _ =
          let old : is_in order e.0 ≡ false = ap (is_in order) same ∙ new in
          let now : is_in (order ++ u ∷ []) e.0 ≡ true = after false old true (eq-eqb u e.0 (sym same)) in
          let a : one_if (is_missing order v e) ≡ 1 = ap₂ (λ x y. one_if (x && not y)) t old in
          let b : one_if (is_missing (order ++ u ∷ []) v e) ≡ 0 = ap₂ (λ x y. one_if (x && not y)) t now in
          let c : one_if (is_edge u v e) ≡ 1 = ap₂ (λ x y. one_if (x && y)) (eq-eqb e.0 u same) t in
          omega arith
      go (inl t) (inr other) (inl old) =
          let now : is_in (order ++ u ∷ []) e.0 ≡ true = after true old false (ne_eqb u e.0 (λ q. other (sym q))) in
          let a : one_if (is_missing order v e) ≡ 0 = ap₂ (λ x y. one_if (x && not y)) t old in
          let b : one_if (is_missing (order ++ u ∷ []) v e) ≡ 0 = ap₂ (λ x y. one_if (x && not y)) t now in
          let c : one_if (is_edge u v e) ≡ 0 = ap one_if (and_left (e.0 == u) (e.1 == v) (ne_eqb e.0 u other)) in
          omega arith
      go (inl t) (inr other) (inr old) =
          let now : is_in (order ++ u ∷ []) e.0 ≡ false = after false old false (ne_eqb u e.0 (λ q. other (sym q))) in
          let a : one_if (is_missing order v e) ≡ 1 = ap₂ (λ x y. one_if (x && not y)) t old in
          let b : one_if (is_missing (order ++ u ∷ []) v e) ≡ 1 = ap₂ (λ x y. one_if (x && not y)) t now in
          let c : one_if (is_edge u v e) ≡ 0 = ap one_if (and_left (e.0 == u) (e.1 == v) (ne_eqb e.0 u other)) in
          omega arith

  -- once u is in the list, the edges from it are no longer missing
  pub missing_next : (edges : List Pair) → missing_count edges order v ≡ missing_count edges (order ++ u ∷ []) v + edge_count edges u v
  missing_next [] = refl
  missing_next (e ∷ edges) =
      let rest = missing_next edges in
      omega (arith, count_cons (is_missing order v) e edges, count_cons (is_missing (order ++ u ∷ []) v) e edges, count_cons (is_edge u v) e edges, one_edge e)

-- none is missing: each edge comes from a number in the list
pub none_missing : (edges : List Pair) (order : List ℕ) (v : ℕ) → missing_count edges order v ≡ 0 → (u : ℕ) → Contains edges (u, v) → Contains order u
none_missing [] order v z u (k, l, e) = absurd (omega arith)
none_missing (d ∷ edges) order v z u (zero, l, e) =
    let split = count_cons (is_missing order v) d edges in
    let from : d.0 ≡ u = ap (λ (p : Pair). p.0) e in
    let to : d.1 ≡ v = ap (λ (p : Pair). p.1) e in
    elim (cases_Bool (is_in order d.0)) [
      | inl i ↦ subst (Contains order) from (from_in order d.0 i)
      | inr i ↦ (let a : one_if (is_missing order v d) ≡ 1 = ap₂ (λ x y. one_if (x && not y)) (eq-eqb d.1 v to) i in absurd (omega arith))
    ]
none_missing (d ∷ edges) order v z u (suc k, l, e) =
    let split = count_cons (is_missing order v) d edges in
    none_missing edges order v (omega arith) u (k, omega arith, e)

pub all_there : (edges : List Pair) (order : List ℕ) (v : ℕ) → ((u : ℕ) → Contains edges (u, v) → Contains order u) → missing_count edges order v ≡ 0
all_there [] order v h = refl
all_there (d ∷ edges) order v h =
    let split = count_cons (is_missing order v) d edges in
    let rest = all_there edges order v (λ u c. h u (suc c.0, omega (arith, c.1), c.2)) in
    let here : one_if (is_missing order v d) ≡ 0 =
    elim (cases_eq d.1 v) [
      | inl e ↦
          let in_order : is_in order d.0 ≡ true = in_from order d.0 (h d.0 (zero, omega arith, ap (λ w. (d.0, w)) e)) in
          ap₂ (λ x y. one_if (x && not y)) (eq-eqb d.1 v e) in_order
      | inr o ↦ ap one_if (and_left (d.1 == v) (not (is_in order d.0)) (ne_eqb d.1 v o))
    ] in
    omega arith

-- an edge that is there is counted
pub edge_counted : (edges : List Pair) (u v : ℕ) → 0 < edge_count edges u v → Contains edges (u, v)
edge_counted [] u v l = absurd (omega arith)
edge_counted (d ∷ edges) u v l =
    let split = count_cons (is_edge u v) d edges in
    elim (cases_Bool (is_edge u v d)) [
      | inl t ↦ (let p = and_parts (d.0 == u) (d.1 == v) t in (zero, omega arith, ap₂ (λ x y. (x, y)) (eqb-true d.0 u p.0) (eqb-true d.1 v p.1)))
      | inr f ↦ (let none : one_if (is_edge u v d) ≡ 0 = ap one_if f in let c = edge_counted edges u v (omega arith) in (suc c.0, omega (arith, c.1), c.2))
    ]
