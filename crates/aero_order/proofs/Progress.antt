-- What holds between the steps that make the order: how many edges each number waits for, and which numbers are held as free.
use Rattle.std.proofs.Common.{◌≡◌, ◌≢◌, ◌⊎◌, ℕ, ◌+◌, ◌<◌, ◌≤◌, ◌==◌, ◌&&◌, ◌||◌, not, nat_lt, Bool, true, false, List, [], ◌∷◌, ◌++◌, length, Some, inl, inr, refl, sym, ◌∙◌, ap, subst, append_assoc, arith}
use Rattle.std.specs.Prelude.{slice_get, Contains}
use Rattle.std.proofs.lemmas.Bool.{cases_Bool, cases_eq, and_parts, and_right, and_from, eq-eqb, eqb-true, ne_eqb, lt-ltb, ltb-true, not-true, not_from_false, both_ways}
use Rattle.std.proofs.lemmas.List.{length_push}
use Rattle.std.proofs.lemmas.List.Elements.{Contains-push, Contains-push_cases, Contains-append_left}
use Rattle.std.proofs.lemmas.Option.{slice_get_within, get_or_from_slice_get}
use Rattle.aero_model.proofs.Distinct.{AreOnce, AreBelow, few}
use Rattle.aero_model.proofs.SerialOrders.{at_push}
use Rattle.aero_order.specs.Order.{IsFree, IsLeastFree, GoesOnWith, IsOrder}
use Rattle.aero_order.specs.Waiting.{Pair, is_in, missing_count, one_if, is_due, Waits}
use Rattle.aero_order.proofs.Counts.{in_from, not_in, in_push, none_missing, all_there}

contains_at : (xs : List ℕ) (i x : ℕ) → slice_get xs i ≡ Some x → Contains xs x
contains_at xs i x at = (i, slice_get_within xs i x at, get_or_from_slice_get xs i x x at)

pub once_push : (xs : List ℕ) (y : ℕ) → ¬ Contains xs y → AreOnce xs → AreOnce (xs ++ y ∷ [])
once_push xs y new once i j x at_i at_j = go (at_push xs y i x at_i) (at_push xs y j x at_j)
  where
    go : (slice_get xs i ≡ Some x) ⊎ ((i ≡ length xs) × (x ≡ y)) → (slice_get xs j ≡ Some x) ⊎ ((j ≡ length xs) × (x ≡ y)) → i ≡ j
    go (inl a) (inl b) = once i j x a b
    go (inl a) (inr b) = absurd (new (subst (Contains xs) b.1 (contains_at xs i x a)))
    go (inr a) (inl b) = absurd (new (subst (Contains xs) a.1 (contains_at xs j x b)))
    go (inr a) (inr b) = a.0 ∙ sym b.0

pub below_push : (n : ℕ) (xs : List ℕ) (y : ℕ) → y < n → AreBelow n xs → AreBelow n (xs ++ y ∷ [])
below_push n xs y l below i x at = elim (at_push xs y i x at) [ inl h ↦ below i x h | inr h ↦ subst (λ z. z < n) (sym h.1) l ]

one_at_most : (b : Bool) → one_if b ≤ 1
one_at_most true = omega arith
one_at_most false = omega arith

or_false : (b : Bool) → (b || false) ≡ b
or_false true = refl
or_false false = refl

module _ (count : ℕ) (edges : List Pair) where
  -- the list has come about by the rule
  pub record Follows (order : List ℕ) : Type 0 where
    pub rule : (more : List ℕ) → GoesOnWith count edges order more → IsOrder count edges (order ++ more)
    pub closed : (v : ℕ) → Contains order v → (u : ℕ) → Contains edges (u, v) → Contains order u
    pub once : AreOnce order
    pub below : AreBelow count order

  pub follows_nil : Follows []
  follows_nil = record { rule = λ more g. g; closed = λ v c. absurd (omega (arith, c.1)); once = λ i j x a b. absurd (cc); below = λ i x a. absurd (cc) }

  pub follows_next : (order : List ℕ) (u : ℕ) → Follows order → IsLeastFree count edges order u → Follows (order ++ u ∷ [])
  follows_next order u f next = record {
    rule = λ more g. subst (IsOrder count edges) (sym (append_assoc order (u ∷ []) more)) (f.rule (u ∷ more) (next, g));
    closed = λ v c w edge. Contains-append_left order (u ∷ []) w (elim (Contains-push_cases order u v c) [
      | inl old ↦ f.closed v old w edge
      | inr e ↦ next.free.after w (subst (λ z. Contains edges (w, z)) (sym e) edge)
    ]);
    once = once_push order u next.free.new f.once;
    below = below_push count order u next.free.within f.below;
  }

  -- there is room for one more
  pub length_less : (order : List ℕ) (u : ℕ) → Follows order → IsFree count edges order u → length order < count
  length_less order u f free =
      let l = few count (order ++ u ∷ []) (once_push order u free.new f.once) (below_push count order u free.within f.below) in
      omega (arith, length_push order u)

  abbrev pub missing : List ℕ → ℕ → ℕ
  missing order v = missing_count edges order v

  due_from : (order : List ℕ) (v n : ℕ) → v < count → ¬ Contains order v → n ≡ 0 → is_due count order v n ≡ true
  due_from order v n l new z =
      and_from (nat_lt v count) (not (is_in order v) && (n == 0)) (lt-ltb v count l)
      (and_from (not (is_in order v)) (n == 0) (not_from_false (is_in order v) (not_in order v new)) (eq-eqb n 0 z))

  from_due : (order : List ℕ) (v n : ℕ) → is_due count order v n ≡ true → (v < count) × (¬ Contains order v) × (n ≡ 0)
  from_due order v n h =
      let p = and_parts (nat_lt v count) (not (is_in order v) && (n == 0)) h in
      let q = and_parts (not (is_in order v)) (n == 0) p.1 in
      (ltb-true v count p.0, (λ c. both_ways (is_in order v) (not-true (is_in order v) q.0) (in_from order v c)), eqb-true n 0 q.1)

  module _ (order : List ℕ) (waits held : ℕ → ℕ) (w : Waits count order (missing order) waits held) where
    pub free_from_held : (v : ℕ) → 0 < held v → IsFree count edges order v
    free_from_held v l = elim (cases_Bool (is_due count order v (missing order v))) [
      | inl h ↦ (let d = from_due order v (missing order v) h in record { within = d.0; new = d.1; after = none_missing edges order v d.2 })
      | inr h ↦ (let z : one_if (is_due count order v (missing order v)) ≡ 0 = ap one_if h in absurd (omega (arith, w.holds v)))
    ]

    pub held_from_free : (v : ℕ) → IsFree count edges order v → 0 < held v
    held_from_free v free =
        let z : one_if (is_due count order v (missing order v)) ≡ 1 = ap one_if (due_from order v (missing order v) free.within free.new (all_there edges order v free.after)) in
        omega (arith, w.holds v)

    -- u is held no longer, and goes to the end of the list
    pub waits_popped : (u : ℕ) (left : ℕ → ℕ) → 0 < held u → ((v : ℕ) → held v ≡ one_if (u == v) + left v) → Waits count (order ++ u ∷ []) (missing order) waits left
    waits_popped u left l split = record { counts = w.counts; holds = holds }
      where
        holds : (v : ℕ) → left v ≡ one_if (is_due count (order ++ u ∷ []) v (missing order v))
        holds v = go (cases_eq u v)
          where
            go : (u ≡ v) ⊎ (u ≡ v → ⊥) → left v ≡ one_if (is_due count (order ++ u ∷ []) v (missing order v))
            go (inl e) =
                let now : is_in (order ++ u ∷ []) v ≡ true = in_from (order ++ u ∷ []) v (subst (Contains (order ++ u ∷ [])) e (Contains-push order u)) in
                let none : one_if (is_due count (order ++ u ∷ []) v (missing order v)) ≡ 0 =
                ap one_if (and_right (nat_lt v count) (not (is_in (order ++ u ∷ []) v) && (missing order v == 0)) (ap (λ b. not b && (missing order v == 0)) now)) in
                let here : one_if (u == v) ≡ 1 = ap one_if (eq-eqb u v e) in
                let most : one_if (is_due count order v (missing order v)) ≤ 1 = one_at_most (is_due count order v (missing order v)) in
                omega (arith, split v, w.holds v)
            go (inr d) =
                let same : is_in (order ++ u ∷ []) v ≡ is_in order v = in_push order u v ∙ ap (λ b. is_in order v || (b || false)) (ne_eqb u v d) ∙ or_false (is_in order v) in
                let due : one_if (is_due count (order ++ u ∷ []) v (missing order v)) ≡ one_if (is_due count order v (missing order v)) =
                ap (λ b. one_if (nat_lt v count && (not b && (missing order v == 0)))) same in
                let none : one_if (u == v) ≡ 0 = ap one_if (ne_eqb u v d) in
                omega (arith, split v, w.holds v)

  -- an edge to t is due no longer: t waits for one less, and is held from then on where it waits for none
  pub waits_less : (order : List ℕ) (t : ℕ) (due less waits fewer held more : ℕ → ℕ) → Waits count order due waits held → t < count → ¬ Contains order t → 0 < due t → ((v : ℕ) → due v ≡ one_if (t == v) + less v) → ((v : ℕ) → v ≢ t → fewer v ≡ waits v) → fewer t + 1 ≡ waits t → ((v : ℕ) → more v ≡ one_if ((fewer t == 0) && (t == v)) + held v) → Waits count order less fewer more
  waits_less order t due less waits fewer held more w l new some step other here pushed = record { counts = counts; holds = holds }
    where
      at_t : less t + 1 ≡ due t
      at_t = let one : one_if (t == t) ≡ 1 = ap one_if (eq-eqb t t refl) in omega (arith, step t)

      elsewhere : (v : ℕ) → (t ≡ v → ⊥) → less v ≡ due v
      elsewhere v d = let none : one_if (t == v) ≡ 0 = ap one_if (ne_eqb t v d) in omega (arith, step v)

      waits_at_t : fewer t ≡ less t
      waits_at_t = omega (arith, at_t, here, w.counts t l)

      counts : (v : ℕ) → v < count → fewer v ≡ less v
      counts v k = elim (cases_eq t v) [
        | inl e ↦ subst (λ z. fewer z ≡ less z) e waits_at_t
        | inr d ↦ other v (λ q. d (sym q)) ∙ w.counts v k ∙ sym (elsewhere v d)
      ]

      holds_at_t : more t ≡ one_if (is_due count order t (less t))
      holds_at_t =
          let before : one_if (is_due count order t (due t)) ≡ 0 =
          ap one_if (and_right (nat_lt t count) (not (is_in order t) && (due t == 0)) (and_right (not (is_in order t)) (due t == 0) (ne_eqb (due t) 0 (λ z. omega (arith, some, z))))) in
          let now : is_due count order t (less t) ≡ ((fewer t == 0) && (t == t)) =
          ap (λ b. b && (not (is_in order t) && (less t == 0))) (lt-ltb t count l) ∙ ap (λ b. not b && (less t == 0)) (not_in order t new) ∙ ap (λ n. n == 0) (sym waits_at_t) ∙ sym (ap (λ b. (fewer t == 0) && b) (eq-eqb t t refl) ∙ and_true (fewer t == 0)) in
          let same : one_if (is_due count order t (less t)) ≡ one_if ((fewer t == 0) && (t == t)) = ap one_if now in
          omega (arith, pushed t, w.holds t)
        where
          and_true : (b : Bool) → (b && true) ≡ b
          and_true true = refl
          and_true false = refl

      holds : (v : ℕ) → more v ≡ one_if (is_due count order v (less v))
      holds v = elim (cases_eq t v) [
        | inl e ↦ subst (λ z. more z ≡ one_if (is_due count order z (less z))) e holds_at_t
        | inr d ↦
            let none : one_if ((fewer t == 0) && (t == v)) ≡ 0 = ap one_if (and_right (fewer t == 0) (t == v) (ne_eqb t v d)) in
            let same : one_if (is_due count order v (less v)) ≡ one_if (is_due count order v (due v)) = ap (λ n. one_if (is_due count order v n)) (elsewhere v d) in
            omega (arith, pushed v, w.holds v)
      ]

  pub waits_same : (order : List ℕ) (due other waits held : ℕ → ℕ) → ((v : ℕ) → due v ≡ other v) → Waits count order due waits held → Waits count order other waits held
  waits_same order due other waits held same w = record {
    counts = λ v l. w.counts v l ∙ same v;
    holds = λ v. w.holds v ∙ ap (λ n. one_if (is_due count order v n)) (same v);
  }
