-- The serial order exists, and has every transaction where no cycle is: what doesn't stand has an edge to it from what doesn't stand either, and so on until one comes again.
use Rattle.std.proofs.Common.{◌≡◌, ℕ, zero, suc, ◌+◌, ◌<◌, List, [], ◌∷◌, ◌++◌, length, map, Some, inl, inr, refl, sym, ◌∙◌, subst, arith}
use Rattle.std.specs.Prelude.{slice_get, Contains}
use Rattle.std.proofs.lemmas.Option.{slice_get_within, get_or_from_slice_get}
use Rattle.std.proofs.lemmas.List.{length_push}
use Rattle.aero_model.specs.declared.numbered.Numbered.{Numbered}
use Rattle.aero_model.specs.Blocks.{Transaction, transaction}
use Rattle.aero_model.specs.Cycle.{IsSerializable}
use Rattle.aero_model.specs.Graph.{Edge, Edges, last_transaction}
use Rattle.aero_model.specs.Serial.{IsFirstPlace, Stands, IsReady, IsNext, GrowsBy, IsSerialOrder, IsComplete}
use Rattle.aero_model.proofs.Elements.{none_in, there, first_or_rest, Contains-map}
use Rattle.aero_model.proofs.Searching.{Decided, search_below}
use Rattle.aero_model.proofs.Places.{cases_transaction}
use Rattle.aero_model.proofs.Distinct.{AreOnce, AreBelow, few, once_more, below_more}
use Rattle.aero_model.proofs.Ready.{decided_stands, first_of_place, FirstOf, Blocked, blocked_or_after, decided_ready}
use Rattle.aero_model.proofs.SerialOrders.{Sound, sound_nil, sound_next, none_left}

module _ (trace : List Numbered) where
  abbrev of_place : ℕ → Transaction
  of_place n = transaction trace n

  decided_among : (x : Transaction) (ys : List Transaction) → Decided (Contains ys x)
  decided_among x [] = inr none_in
  decided_among x (y ∷ ys) = go (cases_transaction x y) (decided_among x ys)
    where
      go : Decided (x ≡ y) → Decided (Contains ys x) → Decided (Contains (y ∷ ys) x)
      go (inl e) _ = inl (0, omega arith, sym e)
      go (inr d) (inl m) = inl (there y ys m)
      go (inr d) (inr m) = inr (λ h. elim (first_or_rest y ys h) [ inl e ↦ d e | inr k ↦ m k ])

  among_at : (q : ℕ) (qs : List ℕ) (i : ℕ) → slice_get qs i ≡ Some q → Contains (map of_place qs) (of_place q)
  among_at q qs i at = Contains-map of_place qs q (i, slice_get_within qs i q at, get_or_from_slice_get qs i q q at)

  -- the edges up to one of the transactions
  up_to : (x z : Transaction) (ys : List Transaction) → Edges trace (length trace) x ys → Contains (x ∷ ys) z → (rest : List Transaction) × Edges trace (length trace) x rest × (last_transaction x rest ≡ z)
  up_to x z ys edges (zero, l, e) = ([], tt, e)
  up_to x z [] edges (suc k, l, e) = absurd (omega arith)
  up_to x z (y ∷ ys) edges (suc k, l, e) = let r = up_to y z ys edges.1 (k, omega arith, e) in (y ∷ r.0, (edges.0, r.1), r.2)

  module _ (order : List ℕ) (stuck : (n : ℕ) → ¬ IsReady trace order n) (serial : IsSerializable trace (length trace)) where
    -- what doesn't stand comes after what doesn't stand either
    missing_before : (y : Transaction) (f : FirstOf trace y) → ¬ Stands trace order y → Blocked trace order y
    missing_before y f missing = elim (blocked_or_after trace order y) [
      | inl b ↦ b
      | inr after ↦ absurd (stuck f.place record {
        place = f.first;
        new = λ s. missing (subst (Stands trace order) f.of s);
        after = λ x edge. after x (subst (Edge trace (length trace) x) f.of edge);
      })
    ]

    walk : (fuel q : ℕ) (qs : List ℕ) → ¬ Stands trace order (of_place q) → IsFirstPlace trace q → AreOnce (q ∷ qs) → AreBelow (length trace) (q ∷ qs) → Edges trace (length trace) (of_place q) (map of_place qs) → length trace < length (q ∷ qs) + fuel → ⊥
    walk zero q qs missing first once below edges long = omega (arith, few (length trace) (q ∷ qs) once below)
    walk (suc fuel) q qs missing first once below edges long = elim (decided_among (of_place f.place) (of_place q ∷ map of_place qs)) [
      | inl m ↦
          let r = up_to (of_place q) (of_place f.place) (map of_place qs) edges m in
          serial (of_place q) r.0 record { edges = r.1; closed = subst (λ z. Edge trace (length trace) z (of_place q)) (sym r.2) edge }
      | inr new ↦
          walk fuel f.place (q ∷ qs) (λ s. (b.hinders).missing (subst (Stands trace order) f.of s)) f.first
          (once_more f.place (q ∷ qs) (λ i at. new (among_at f.place (q ∷ qs) i at)) once)
          (below_more (length trace) f.place (q ∷ qs) (f.first).within below)
          (edge, edges) (omega arith)
    ]
      where
        b : Blocked trace order (of_place q)
        b = missing_before (of_place q) record { place = q; first = first; of = refl } missing

        f : FirstOf trace (of_place b.from)
        f = let l = b.within in let c = ((b.hinders).conflict).earlier in first_of_place trace b.from (omega arith)

        edge : Edge trace (length trace) (of_place f.place) (of_place q)
        edge = let h = b.hinders in record { apart = λ e. h.apart (sym f.of ∙ e); from = b.from; from_in = sym f.of; to = b.to; to_in = h.to_in; within = b.within; conflict = h.conflict }

    pub complete : IsComplete trace order
    complete n l = elim (decided_stands trace order (of_place n)) [
      | inl s ↦ s
      | inr missing ↦
          let f = first_of_place trace n l in
          absurd (walk (length trace) f.place [] (λ s. missing (subst (Stands trace order) f.of s)) f.first
          (once_more f.place [] (λ i at. cc) (λ i j x a b. absurd (cc)))
          (below_more (length trace) f.place [] (f.first).within (λ i x a. absurd (cc)))
          tt (omega arith))
    ]

  -- the order by the rule, from any list that keeps to it
  grows : (fuel : ℕ) (order : List ℕ) → Sound trace order → length trace < length order + fuel → (more : List ℕ) × GrowsBy trace order more
  grows zero order s long = absurd (omega (arith, few (length trace) order s.forwards.once (λ i n at. (s.forwards.places i n at).within)))
  grows (suc fuel) order s long = elim (search_below (λ n. IsReady trace order n) (length trace) (λ n l. decided_ready trace order n)) [
    | inl f ↦
        let next : IsNext trace order f.number = record { ready = f.has; earliest = f.least } in
        let rest = grows fuel (order ++ f.number ∷ []) (sound_next trace order f.number s next) (omega (arith, length_push order f.number)) in
        (f.number ∷ rest.0, (next, rest.1))
    | inr none ↦ ([], λ n r. none n (r.place.within) r)
  ]

  pub serial_order_exists : (order : List ℕ) × IsSerialOrder trace order
  serial_order_exists = grows (suc (length trace)) [] (sound_nil trace) (omega arith)

  pub complete_where_serializable : (order : List ℕ) → IsSerialOrder trace order → IsSerializable trace (length trace) → IsComplete trace order
  complete_where_serializable order g serial = complete order (none_left trace [] order g) serial
