-- The order of the numbers along near edges is the serial order.
use Rattle.std.proofs.Common.{◌≡◌, ◌≢◌, ℕ, ◌<◌, List, [], ◌∷◌, ◌++◌, length, map, get_or, Some, inl, inr, refl, sym, ◌∙◌, ap, subst, arith}
use Rattle.std.specs.Prelude.{slice_get, Contains}
use Rattle.std.proofs.lemmas.Bool.{cases_order}
use Rattle.std.proofs.lemmas.List.{map-append}
use Rattle.std.proofs.lemmas.List.Elements.{Contains-push_cases}
use Rattle.std.proofs.lemmas.Option.{slice_get_within, slice_get-get_or, get_or_from_slice_get}
use Rattle.aero_model.specs.declared.numbered.Numbered.{Numbered}
use Rattle.aero_model.specs.Blocks.{Transaction, transaction}
use Rattle.aero_model.specs.Graph.{Edge}
use Rattle.aero_model.specs.Serial.{IsFirstPlace, Stands, IsReady, IsNext, GrowsBy, IsSerialOrder}
use Rattle.aero_model.specs.Shape.{IsWellFormed}
use Rattle.aero_model.proofs.Elements.{Contains-map, Contains-map_from}
use Rattle.aero_model.proofs.Places.{cases_transaction}
use Rattle.aero_model.proofs.Ready.{one_first, place_of}
use Rattle.aero_model.proofs.SerialOrders.{Sound, sound_nil, sound_next}
use Rattle.aero_order.specs.Near.{Near, Chain, one, further}
use Rattle.aero_order.specs.TransactionNumbers.{AreFirsts, HasNumber, AreEdges}
use Rattle.aero_order.specs.Order.{IsFree, IsLeastFree, GoesOnWith, IsOrder}
use Rattle.aero_order.proofs.Chains.{near_conflict, conflict_chain}

module _ (trace : List Numbered) (ok : IsWellFormed trace) (firsts : List ℕ) (are : AreFirsts trace firsts) (edges : List (ℕ × ℕ)) (leads : AreEdges trace firsts edges) where
  abbrev of_place : ℕ → Transaction
  of_place n = transaction trace n

  -- the place of a number
  abbrev pub first_of : ℕ → ℕ
  first_of v = get_or firsts v 0

  abbrev pub places_of : List ℕ → List ℕ
  places_of order = map first_of order

  at_number : (v : ℕ) → v < length firsts → slice_get firsts v ≡ Some (first_of v)
  at_number v l = slice_get-get_or firsts v 0 l

  number_place : (x : Transaction) (v : ℕ) (h : HasNumber trace firsts x v) → (v < length firsts) × (of_place (first_of v) ≡ x)
  number_place x v (n, at, e) = (slice_get_within firsts v n at, ap of_place (get_or_from_slice_get firsts v n 0 at) ∙ e)

  first_at : (v : ℕ) → v < length firsts → IsFirstPlace trace (first_of v)
  first_at v l = are.places v (first_of v) (at_number v l)

  -- a transaction has one number
  one_number : (u v : ℕ) → u < length firsts → v < length firsts → of_place (first_of u) ≡ of_place (first_of v) → u ≡ v
  one_number u v lu lv e =
      let same = one_first trace (first_of u) (first_of v) (first_at u lu) (first_at v lv) e in
      elim (cases_order u v) [
        | inl q ↦ q
        | inr (inl l) ↦ absurd (omega (arith, same, are.rising u v (first_of u) (first_of v) l (at_number u lu) (at_number v lv)))
        | inr (inr l) ↦ absurd (omega (arith, same, are.rising v u (first_of v) (first_of u) l (at_number v lv) (at_number u lu)))
      ]

  pub number_at : (n : ℕ) → IsFirstPlace trace n → (v : ℕ) × (v < length firsts) × (first_of v ≡ n)
  number_at n f = let c = are.all n f in let p = place_of trace firsts n c in (p.0, slice_get_within firsts p.0 n p.1, get_or_from_slice_get firsts p.0 n 0 p.1)

  -- the numbers in a list are those of transactions
  abbrev pub AreNumbers : List ℕ → Type 0
  AreNumbers order = (v : ℕ) → Contains order v → v < length firsts

  pub stands_from : (order : List ℕ) (v : ℕ) → Contains order v → Stands trace (places_of order) (of_place (first_of v))
  stands_from order v c = (first_of v, Contains-map first_of order v c, refl)

  pub contains_from : (order : List ℕ) → AreNumbers order → (v : ℕ) → v < length firsts → Stands trace (places_of order) (of_place (first_of v)) → Contains order v
  contains_from order within v l s =
      let r = Contains-map_from first_of order s.0 s.1 in
      let same = one_number r.0 v (within r.0 r.1) l (ap of_place r.2 ∙ s.2) in
      subst (Contains order) same r.1

  edge_of_near : (i j : ℕ) → Near trace i j → of_place i ≢ of_place j → Edge trace (length trace) (of_place i) (of_place j)
  edge_of_near i j near apart =
      let c = near_conflict trace i j near in
      record { apart = apart; from = i; from_in = refl; to = j; to_in = refl; within = slice_get_within trace j c.second c.second_at; conflict = c }

  module _ (order : List ℕ) (within : AreNumbers order) (sound : Sound trace (places_of order)) where
    -- what stands has before it all that near events lead from
    behind_near : (i j : ℕ) → Near trace i j → Stands trace (places_of order) (of_place j) → Stands trace (places_of order) (of_place i)
    behind_near i j near s = elim (cases_transaction (of_place i) (of_place j)) [
      | inl e ↦ subst (Stands trace (places_of order)) (sym e) s
      | inr d ↦ sound.behind j s (of_place i) (edge_of_near i j near d)
    ]

    behind_chain : (i j : ℕ) → Chain trace i j → Stands trace (places_of order) (of_place j) → Stands trace (places_of order) (of_place i)
    behind_chain i _ (one j near) s = behind_near i j near s
    behind_chain i _ (further k j c near) s = behind_chain i k c (behind_near k j near s)

    module _ (v : ℕ) (free : IsFree (length firsts) edges order v) where
      near_before : (i j : ℕ) → Near trace i j → of_place i ≢ of_place j → of_place j ≡ of_place (first_of v) → Stands trace (places_of order) (of_place i)
      near_before i j near apart to_v =
          let r = leads.near i j near apart in
          let from = number_place (of_place i) r.0 r.2 in
          let to = number_place (of_place j) r.1 r.3 in
          let same = one_number r.1 v to.0 free.within (to.1 ∙ to_v) in
          let c = free.after r.0 (subst (λ w. Contains edges (r.0, w)) same r.4) in
          subst (Stands trace (places_of order)) from.1 (stands_from order r.0 c)

      chain_before : (i j : ℕ) → Chain trace i j → of_place i ≢ of_place (first_of v) → of_place j ≡ of_place (first_of v) → Stands trace (places_of order) (of_place i)
      chain_before i _ (one j near) apart to_v = near_before i j near (λ e. apart (e ∙ to_v)) to_v
      chain_before i _ (further k j c near) apart to_v = elim (cases_transaction (of_place k) (of_place (first_of v))) [
        | inl e ↦ chain_before i k c apart e
        | inr d ↦ behind_chain i k c (near_before k j near (λ e. d (e ∙ to_v)) to_v)
      ]

      ready_from_free : IsReady trace (places_of order) (first_of v)
      ready_from_free = record { place = first_at v free.within; new = λ s. free.new (contains_from order within v free.within s); after = after }
        where
          after : (x : Transaction) → Edge trace (length trace) x (of_place (first_of v)) → Stands trace (places_of order) x
          after x edge =
              subst (Stands trace (places_of order)) edge.from_in
              (chain_before edge.from edge.to (conflict_chain trace ok edge.from edge.to edge.conflict) (λ e. edge.apart (sym edge.from_in ∙ e)) edge.to_in)

    free_from_ready : (v : ℕ) → v < length firsts → IsReady trace (places_of order) (first_of v) → IsFree (length firsts) edges order v
    free_from_ready v l ready = record { within = l; new = λ c. ready.new (stands_from order v c); after = after }
      where
        after : (u : ℕ) → Contains edges (u, v) → Contains order u
        after u c =
            let r = leads.sound u v c in
            let from = number_place r.0 u r.2 in
            let to = number_place r.1 v r.3 in
            let s = ready.after r.0 (subst (Edge trace (length trace) r.0) (sym to.1) r.4) in
            contains_from order within u from.0 (subst (Stands trace (places_of order)) (sym from.1) s)

    next_from_least : (v : ℕ) → IsLeastFree (length firsts) edges order v → IsNext trace (places_of order) (first_of v)
    next_from_least v h = record { ready = ready_from_free v h.free; earliest = earliest }
      where
        earliest : (m : ℕ) → m < first_of v → ¬ IsReady trace (places_of order) m
        earliest m l ready =
            let u = number_at m ready.place in
            let free = free_from_ready u.0 u.1 (subst (IsReady trace (places_of order)) (sym u.2) ready) in
            elim (cases_order u.0 v) [
              | inl e ↦ (let same = ap first_of e in omega (arith, u.2))
              | inr (inl less) ↦ h.least u.0 less free
              | inr (inr more) ↦ omega (arith, u.2, are.rising v u.0 (first_of v) (first_of u.0) more (at_number v h.free.within) (at_number u.0 u.1))
            ]

    none_from_none : ((v : ℕ) → ¬ IsFree (length firsts) edges order v) → (n : ℕ) → ¬ IsReady trace (places_of order) n
    none_from_none none n ready =
        let u = number_at n ready.place in none u.0 (free_from_ready u.0 u.1 (subst (IsReady trace (places_of order)) (sym u.2) ready))

  numbers_more : (order : List ℕ) (v : ℕ) → AreNumbers order → v < length firsts → AreNumbers (order ++ v ∷ [])
  numbers_more order v within l u c = elim (Contains-push_cases order v u c) [ inl old ↦ within u old | inr e ↦ subst (λ w. w < length firsts) e l ]

  grows_from : (order more : List ℕ) → AreNumbers order → Sound trace (places_of order) → GoesOnWith (length firsts) edges order more → GrowsBy trace (places_of order) (places_of more)
  grows_from order [] within sound g = none_from_none order within sound g
  grows_from order (v ∷ more) within sound g =
      let next = next_from_least order within sound v g.0 in
      let pushed : places_of (order ++ v ∷ []) ≡ places_of order ++ first_of v ∷ [] = map-append first_of order (v ∷ []) in
      let rest = grows_from (order ++ v ∷ []) more (numbers_more order v within ((g.0).free).within) (subst (Sound trace) (sym pushed) (sound_next trace (places_of order) (first_of v) sound next)) g.1 in
      (next, subst (λ o. GrowsBy trace o (places_of more)) pushed rest)

  pub serial_from_order : (order : List ℕ) → IsOrder (length firsts) edges order → IsSerialOrder trace (places_of order)
  serial_from_order order g = grows_from [] order (λ v c. absurd (omega (arith, c.1))) (sound_nil trace) g
