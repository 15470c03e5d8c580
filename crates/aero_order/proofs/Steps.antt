-- One step of making the order: the least free number goes to its end, and its edges give way.
use Rattle.std.proofs.Common.{◌≡◌, ℕ, ◌+◌, ◌-◌, ◌<◌, ◌==◌, ◌&&◌, nat_lt, true, false, List, [], ◌∷◌, ◌++◌, length, take, get_or, inl, inr, refl, sym, ◌∙◌, ap, subst, append-nil, arith}
use Rattle.std.specs.Prelude.{Contains, All}
use Rattle.std.proofs.lemmas.Bool.{cases_lt, le-ltb, eq-eqb}
use Rattle.std.proofs.lemmas.List.Elements.{Contains-push_cases}
use Rattle.aero_order.specs.Order.{IsLeastFree, IsOrder}
use Rattle.aero_order.specs.Waiting.{Pair, missing_count, edge_count, one_if, is_due, times, Waits, numbers_of, GivesWay}
use Rattle.aero_order.proofs.Counts.{edge_counted, missing_next, not_in}
use Rattle.aero_order.proofs.Giving.{count_more, count_front}
use Rattle.aero_order.proofs.Progress.{Follows, follows_nil, follows_next, length_less, free_from_held, held_from_free, waits_popped, waits_same}

-- between two steps
pub record Between (count : ℕ) (edges : List Pair) (order waiting : List ℕ) (held : ℕ → ℕ) : Type 0 where
  pub follows : Follows count edges order
  pub len : length waiting ≡ count
  pub waits : Waits count order (missing_count edges order) (numbers_of waiting) held

pub between_first : (count : ℕ) (edges : List Pair) (waiting : List ℕ) (held : ℕ → ℕ) → length waiting ≡ count → ((v : ℕ) → v < count → get_or waiting v 0 ≡ missing_count edges [] v) → ((v : ℕ) → held v ≡ one_if (is_due count [] v (get_or waiting v 0))) → Between count edges [] waiting held
between_first count edges waiting held len counts holds = record { follows = follows_nil count edges; len = len; waits = record { counts = counts; holds = at } }
  where
    at : (v : ℕ) → held v ≡ one_if (is_due count [] v (missing_count edges [] v))
    at v = elim (cases_lt v count) [
      | inl l ↦ holds v ∙ ap (λ n. one_if (is_due count [] v n)) (counts v l)
      | inr le ↦
          let past : nat_lt v count ≡ false = le-ltb v count le in
          holds v ∙ ap (λ b. one_if (b && (true && (get_or waiting v 0 == 0)))) past ∙ sym (ap (λ b. one_if (b && (true && (missing_count edges [] v == 0)))) past)
    ]

module _ (count : ℕ) (edges : List Pair) (order waiting : List ℕ) (held : ℕ → ℕ) (b : Between count edges order waiting held) where
  -- none is held: the order is made
  pub order_made : ((v : ℕ) → held v ≡ 0) → IsOrder count edges order
  order_made none = subst (IsOrder count edges) (append-nil order) (b.follows.rule [] (λ v free. omega (arith, none v, held_from_free count edges order (numbers_of waiting) held b.waits v free)))

  module _ (u : ℕ) (left : ℕ → ℕ) (split : (w : ℕ) → held w ≡ one_if (u == w) + left w) (least : (w : ℕ) → w < u → held w ≡ 0) where
    taken : 0 < held u
    taken = let one : one_if (u == u) ≡ 1 = ap one_if (eq-eqb u u refl) in omega (arith, split u)

    pub next : IsLeastFree count edges order u
    next = record {
      free = free_from_held count edges order (numbers_of waiting) held b.waits u taken;
      least = λ w l free. omega (arith, least w l, held_from_free count edges order (numbers_of waiting) held b.waits w free);
    }

    pub room : length order < count
    room = length_less count edges order u b.follows next.free

    -- the targets of the edges from u give way
    pub between_next : (targets fewer : List ℕ) (more : ℕ → ℕ) → ((v : ℕ) → times v targets ≡ edge_count edges u v) → length fewer ≡ length waiting → GivesWay targets waiting left fewer more → Between count edges (order ++ u ∷ []) fewer more
    between_next targets fewer more are len gives = record { follows = follows_next count edges order u b.follows next; len = len ∙ b.len; waits = waits }
      where
        after : (v : ℕ) → missing_count edges order v ≡ missing_count edges (order ++ u ∷ []) v + times v targets
        after v = omega (arith, are v, missing_next order u (not_in order u next.free.new) v edges)

        absent : (v : ℕ) → 0 < times v targets → ¬ Contains (order ++ u ∷ []) v
        absent v some c =
            let edge : Contains edges (u, v) = edge_counted edges u v (omega (arith, some, are v)) in
            elim (Contains-push_cases order u v c) [
              | inl old ↦ next.free.new (b.follows.closed v old u edge)
              | inr e ↦ next.free.new (next.free.after u (subst (λ w. Contains edges (u, w)) (sym e) edge))
            ]

        popped : Waits (length waiting) (order ++ u ∷ []) (missing_count edges order) (numbers_of waiting) left
        popped = subst (λ n. Waits n (order ++ u ∷ []) (missing_count edges order) (numbers_of waiting) left) (sym b.len) (waits_popped count edges order (numbers_of waiting) held b.waits u left taken split)

        given : Waits (length waiting) (order ++ u ∷ []) (λ v. missing_count edges order v - times v targets) (numbers_of fewer) more
        given = gives (order ++ u ∷ []) (missing_count edges order) popped (λ v. omega (arith, after v)) absent

        waits : Waits count (order ++ u ∷ []) (missing_count edges (order ++ u ∷ [])) (numbers_of fewer) more
        waits =
            waits_same count edges (order ++ u ∷ []) (λ v. missing_count edges order v - times v targets) (missing_count edges (order ++ u ∷ [])) (numbers_of fewer) more
            (λ v. omega (arith, after v))
            (subst (λ n. Waits n (order ++ u ∷ []) (λ v. missing_count edges order v - times v targets) (numbers_of fewer) more) b.len given)

-- the targets that are counted as the edges from u are numbers to which these lead
pub targets_within : (count u : ℕ) (edges : List Pair) (targets : List ℕ) → All (λ e. e.1 < count) edges → ((v : ℕ) → times v targets ≡ edge_count edges u v) → All (λ v. v < count) targets
targets_within count u edges targets within are k d l =
    let v = get_or targets k d in
    let one : one_if (v == v) ≡ 1 = ap one_if (eq-eqb v v refl) in
    let once : times v (take (k + 1) targets) ≡ times v (take k targets) + one_if (v == v) = count_more (λ w. w == v) targets k d l in
    let c = edge_counted edges u v (omega (arith, one, once, count_front (λ w. w == v) targets (k + 1), are v)) in
    let at : (get_or edges c.0 (u, v)).1 ≡ v = ap (λ (p : Pair). p.1) c.2 in
    omega (arith, at, within c.0 (u, v) c.1)
