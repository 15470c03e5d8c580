-- How many edges lead from a number and from the lesser ones, and the targets that a fill has put behind one another.
use Rattle.std.proofs.Common.{◌≡◌, ◌⊎◌, ℕ, zero, suc, ◌+◌, ◌-◌, ◌<◌, ◌≤◌, ◌==◌, ◌&&◌, nat_lt, List, [], ◌∷◌, length, take, drop, get_or, set, inl, inr, refl, sym, ◌∙◌, ap, ap₂, subst, le_refl, arith}
use Rattle.std.specs.Prelude.{sum}
use Rattle.std.proofs.lemmas.Bool.{cases_eq, cases_order, eq-eqb, ne_eqb, lt-ltb, le-ltb, and_left}
use Rattle.std.proofs.lemmas.List.{get_or-set_same, get_or-set_other, length-set, drop-set, drop-set-lt, drop-set-add, take-set-le, take_all}
use Rattle.std.proofs.lemmas.List.Sums.{sum_by_more, count_by-le-length}
use Rattle.aero_order.specs.Starts.{from_count, from_below}
use Rattle.aero_order.specs.Waiting.{Pair, one_if, times, is_edge, edge_count}
use Rattle.aero_order.proofs.Counts.{count_cons}
use Rattle.aero_order.proofs.Giving.{count_more, count_front}

one_below : (k u : ℕ) → one_if (nat_lt k (u + 1)) ≡ one_if (nat_lt k u) + one_if (k == u)
one_below k u = elim (cases_order k u) [
  | inl e ↦
      let a : one_if (nat_lt k (u + 1)) ≡ 1 = ap one_if (lt-ltb k (u + 1) (omega (arith, e))) in
      let b : one_if (nat_lt k u) ≡ 0 = ap one_if (le-ltb k u (omega (arith, e))) in
      let c : one_if (k == u) ≡ 1 = ap one_if (eq-eqb k u e) in
      omega arith
  | inr (inl l) ↦
      let a : one_if (nat_lt k (u + 1)) ≡ 1 = ap one_if (lt-ltb k (u + 1) (omega (arith, l))) in
      let b : one_if (nat_lt k u) ≡ 1 = ap one_if (lt-ltb k u l) in
      let c : one_if (k == u) ≡ 0 = ap one_if (ne_eqb k u (λ e. omega (arith, e, l))) in
      omega arith
  | inr (inr l) ↦
      let a : one_if (nat_lt k (u + 1)) ≡ 0 = ap one_if (le-ltb k (u + 1) (omega (arith, l))) in
      let b : one_if (nat_lt k u) ≡ 0 = ap one_if (le-ltb k u (omega (arith, l))) in
      let c : one_if (k == u) ≡ 0 = ap one_if (ne_eqb k u (λ e. omega (arith, e, l))) in
      omega arith
]

pub below_none : (edges : List Pair) → from_below edges 0 ≡ 0
below_none [] = refl
below_none (e ∷ edges) =
    let here : one_if (nat_lt e.0 0) ≡ 0 = ap one_if (le-ltb e.0 0 (omega arith)) in
    omega (arith, count_cons (λ (d : Pair). nat_lt d.0 0) e edges, below_none edges)

pub below_more : (edges : List Pair) (u : ℕ) → from_below edges (u + 1) ≡ from_below edges u + from_count edges u
below_more [] u = refl
below_more (e ∷ edges) u = omega (arith, below_more edges u, one_below e.0 u, count_cons (λ (d : Pair). nat_lt d.0 (u + 1)) e edges, count_cons (λ (d : Pair). nat_lt d.0 u) e edges, count_cons (λ (d : Pair). d.0 == u) e edges)

below_add : (edges : List Pair) (u n : ℕ) → from_below edges u ≤ from_below edges (u + n)
below_add edges u zero = subst (λ w. from_below edges u ≤ from_below edges w) (omega arith) (le_refl (from_below edges u))
below_add edges u (suc n) =
    let same : (u + n) + 1 ≡ u + suc n = omega arith in
    subst (λ w. from_below edges u ≤ from_below edges w) same (omega (arith, below_add edges u n, below_more edges (u + n)))

-- fewer lead from below a lesser number
pub below_le : (edges : List Pair) (u w : ℕ) → u ≤ w → from_below edges u ≤ from_below edges w
below_le edges u w l = let same : u + (w - u) ≡ w = omega (arith, l) in subst (λ k. from_below edges u ≤ from_below edges k) same (below_add edges u (w - u))

pub below_most : (edges : List Pair) (u : ℕ) → from_below edges u ≤ length edges
below_most edges u = count_by-le-length (λ (e : Pair). nat_lt e.0 u) edges

-- the counts of the first numbers have the sum of what leads from those below
pub sum_below : (edges : List Pair) (counts : List ℕ) → ((u : ℕ) → u < length counts → get_or counts u 0 ≡ from_count edges u) → (k : ℕ) → k ≤ length counts → sum (take k counts) ≡ from_below edges k
sum_below edges counts are zero l = sym (below_none edges)
sum_below edges counts are (suc k) l =
    let same : k + 1 ≡ suc k = omega arith in
    subst (λ n. sum (take n counts) ≡ from_below edges n) same
    (omega (arith, sum_by_more (λ n. n) counts k 0 (omega (arith, l)), sum_below edges counts are k (omega (arith, l)), are k (omega (arith, l)), below_more edges k))

pub sum_most : (edges : List Pair) (counts : List ℕ) → ((u : ℕ) → u < length counts → get_or counts u 0 ≡ from_count edges u) → sum counts ≤ length edges
sum_most edges counts are =
    let whole : sum (take (length counts) counts) ≡ sum counts = ap sum (take_all (length counts) counts (le_refl (length counts))) in
    omega (arith, whole, sum_below edges counts are (length counts) (le_refl (length counts)), below_most edges (length counts))

-- a part of a list stays the same if an item outside of it changes
elsewhere : (xs : List ℕ) (s n i y : ℕ) → (i < s) ⊎ (s + n ≤ i) → take n (drop s (set xs i y)) ≡ take n (drop s xs)
elsewhere xs s n i y (inl l) = ap (take n) (drop-set-lt s xs i y l)
elsewhere xs s n i y (inr l) =
    let same : s + (i - s) ≡ i = omega (arith, l) in
    subst (λ k. take n (drop s (set xs k y)) ≡ take n (drop s xs)) same
    (ap (take n) (drop-set-add s xs (i - s) y) ∙ take-set-le n (drop s xs) (i - s) y (omega (arith, l)))

-- the targets of the front are in their places: those from u stand from its start on
pub record Filled (edges front : List Pair) (n : ℕ) (starts list : List ℕ) : Type 0 where
  pub len : length starts ≡ n
  pub room : length list ≡ length edges
  pub begins : (u : ℕ) → u < n → get_or starts u 0 + from_count front u ≡ from_below edges (u + 1)
  pub each : (u v : ℕ) → u < n → times v (take (from_count front u) (drop (get_or starts u 0) list)) ≡ edge_count front u v

module _ (edges : List Pair) (n : ℕ) (starts list : List ℕ) (i : ℕ) (f : Filled edges (take i edges) n starts list) (l : i < length edges) (e : Pair) (is : e ≡ get_or edges i e) (within : e.0 < n) where
  abbrev front : List Pair
  front = take i edges

  abbrev longer : List Pair
  longer = take (i + 1) edges

  count_here : (u : ℕ) → from_count longer u ≡ from_count front u + one_if (e.0 == u)
  count_here u =
      let here : one_if ((get_or edges i e).0 == u) ≡ one_if (e.0 == u) = ap (λ (d : Pair). one_if (d.0 == u)) (sym is) in
      omega (arith, count_more (λ (d : Pair). d.0 == u) edges i e l)

  edges_here : (u v : ℕ) → edge_count longer u v ≡ edge_count front u v + one_if (is_edge u v e)
  edges_here u v =
      let here : one_if (is_edge u v (get_or edges i e)) ≡ one_if (is_edge u v e) = ap (λ (d : Pair). one_if (is_edge u v d)) (sym is) in
      omega (arith, count_more (is_edge u v) edges i e l)

  most : (u : ℕ) → from_count longer u ≤ from_count edges u
  most u = count_front (λ (d : Pair). d.0 == u) edges (i + 1)

  one_more : from_count longer e.0 ≡ suc (from_count front e.0)
  one_more = let one : one_if (e.0 == e.0) ≡ 1 = ap one_if (eq-eqb e.0 e.0 refl) in omega (arith, count_here e.0)

  -- there is room before the start
  pub some : 0 < get_or starts e.0 0
  some = omega (arith, one_more, most e.0, f.begins e.0 within, below_more edges e.0)

  pub in_list : get_or starts e.0 0 ≤ length list
  in_list = omega (arith, f.begins e.0 within, f.room, below_most edges (e.0 + 1))

  module _ (at : ℕ) (before : at + 1 ≡ get_or starts e.0 0) where
    abbrev moved : List ℕ
    moved = set starts e.0 at

    abbrev written : List ℕ
    written = set list at e.1

    start_here : (u : ℕ) → e.0 ≡ u → get_or moved u 0 ≡ at
    start_here u q = subst (λ w. get_or moved w 0 ≡ at) q (get_or-set_same starts e.0 at 0 (omega (arith, within, f.len)))

    start_other : (u : ℕ) → (e.0 ≡ u → ⊥) → get_or moved u 0 ≡ get_or starts u 0
    start_other u d = get_or-set_other starts e.0 u at 0 (λ q. d (sym q))

    starts_more : (u : ℕ) → u < n → get_or moved u 0 + from_count longer u ≡ from_below edges (u + 1)
    starts_more u k = elim (cases_eq e.0 u) [
      | inl q ↦
          let one : one_if (e.0 == u) ≡ 1 = ap one_if (eq-eqb e.0 u q) in
          let old : at + 1 ≡ get_or starts u 0 = before ∙ ap (λ w. get_or starts w 0) q in
          omega (arith, start_here u q, old, count_here u, f.begins u k)
      | inr d ↦
          let none : one_if (e.0 == u) ≡ 0 = ap one_if (ne_eqb e.0 u d) in
          omega (arith, start_other u d, count_here u, f.begins u k)
    ]

    each_here : (v : ℕ) → times v (take (from_count longer e.0) (drop (get_or moved e.0 0) written)) ≡ edge_count longer e.0 v
    each_here v =
        let items : take (suc (from_count front e.0)) (drop at written) ≡ e.1 ∷ take (from_count front e.0) (drop (get_or starts e.0 0) list) =
        ap (take (suc (from_count front e.0))) (drop-set list at e.1 (omega (arith, before, in_list))) ∙ ap (λ s. e.1 ∷ take (from_count front e.0) (drop s list)) before in
        let same : take (from_count longer e.0) (drop (get_or moved e.0 0) written) ≡ take (suc (from_count front e.0)) (drop at written) =
        ap₂ (λ m s. take m (drop s written)) one_more (start_here e.0 refl) in
        let whole : times v (take (from_count longer e.0) (drop (get_or moved e.0 0) written)) ≡ times v (e.1 ∷ take (from_count front e.0) (drop (get_or starts e.0 0) list)) = ap (times v) (same ∙ items) in
        let here : one_if (is_edge e.0 v e) ≡ one_if (e.1 == v) = ap (λ b. one_if (b && (e.1 == v))) (eq-eqb e.0 e.0 refl) in
        omega (arith, whole, here, count_cons (λ w. w == v) e.1 (take (from_count front e.0) (drop (get_or starts e.0 0) list)), f.each e.0 v within, edges_here e.0 v)

    apart : (u : ℕ) → u < n → (e.0 ≡ u → ⊥) → (at < get_or starts u 0) ⊎ (get_or starts u 0 + from_count front u ≤ at)
    apart u k d = elim (cases_order e.0 u) [
      | inl q ↦ absurd (d q)
      | inr (inl less) ↦ inl (omega (arith, before, f.begins e.0 within, f.begins u k, below_le edges (e.0 + 1) u (omega (arith, less)), below_more edges u, count_front (λ (p : Pair). p.0 == u) edges i))
      | inr (inr less) ↦ inr (omega (arith, before, f.begins e.0 within, f.begins u k, below_le edges (u + 1) e.0 (omega (arith, less)), below_more edges e.0, one_more, most e.0))
    ]

    each_other : (u v : ℕ) → u < n → (e.0 ≡ u → ⊥) → times v (take (from_count longer u) (drop (get_or moved u 0) written)) ≡ edge_count longer u v
    each_other u v k d =
        let none : one_if (e.0 == u) ≡ 0 = ap one_if (ne_eqb e.0 u d) in
        let many : from_count longer u ≡ from_count front u = omega (arith, none, count_here u) in
        let same : take (from_count longer u) (drop (get_or moved u 0) written) ≡ take (from_count front u) (drop (get_or starts u 0) written) =
        ap₂ (λ m s. take m (drop s written)) many (start_other u d) in
        let whole : times v (take (from_count longer u) (drop (get_or moved u 0) written)) ≡ times v (take (from_count front u) (drop (get_or starts u 0) list)) =
        ap (times v) (same ∙ elsewhere list (get_or starts u 0) (from_count front u) at e.1 (apart u k d)) in
        let other : one_if (is_edge u v e) ≡ 0 = ap one_if (and_left (e.0 == u) (e.1 == v) (ne_eqb e.0 u d)) in
        omega (arith, whole, other, f.each u v k, edges_here u v)

    pub filled_more : Filled edges longer n moved written
    filled_more = record {
      len = length-set starts e.0 at ∙ f.len;
      room = length-set list at e.1 ∙ f.room;
      begins = starts_more;
      each = λ u v k. elim (cases_eq e.0 u) [
        | inl q ↦ subst (λ w. times v (take (from_count longer w) (drop (get_or moved w 0) written)) ≡ edge_count longer w v) q (each_here v)
        | inr d ↦ each_other u v k d
      ];
    }

-- all are in their places: each number's targets stand from its start up to the next one's
module _ (edges : List Pair) (n : ℕ) (starts list : List ℕ) (f : Filled edges edges n starts list) where
  start_at : (u : ℕ) → u < n → get_or starts u 0 ≡ from_below edges u
  start_at u k = omega (arith, f.begins u k, below_more edges u)

  pub in_order : (u : ℕ) → u + 1 < n → (get_or starts u 0 ≤ get_or starts (u + 1) 0) × (get_or starts (u + 1) 0 ≤ length list)
  in_order u k =
      let here = start_at u (omega (arith, k)) in
      let next = start_at (u + 1) k in
      (omega (arith, here, next, below_more edges u), omega (arith, next, f.room, below_most edges (u + 1)))

  pub each_placed : (u v : ℕ) → u + 1 < n → times v (take (get_or starts (u + 1) 0 - get_or starts u 0) (drop (get_or starts u 0) list)) ≡ edge_count edges u v
  each_placed u v k =
      let here = start_at u (omega (arith, k)) in
      let next = start_at (u + 1) k in
      let many : get_or starts (u + 1) 0 - get_or starts u 0 ≡ from_count edges u = omega (arith, here, next, below_more edges u) in
      ap (λ m. times v (take m (drop (get_or starts u 0) list))) many ∙ f.each u v (omega (arith, k))
