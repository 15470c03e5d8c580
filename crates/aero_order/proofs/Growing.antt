-- One more event: the numbers of the transactions and the edges between them.
use Rattle.std.proofs.Common.{◌≡◌, ◌≢◌, ◌⊎◌, ℕ, zero, suc, ◌<◌, ◌==◌, Bool, List, [], ◌∷◌, ◌++◌, length, Some, inl, inr, refl, sym, ◌∙◌, ap, subst, le_refl, arith}
use Rattle.std.specs.Prelude.{slice_get, Contains}
use Rattle.std.proofs.lemmas.Bool.{cases_eq}
use Rattle.std.proofs.lemmas.List.{length_push}
use Rattle.std.proofs.lemmas.List.Elements.{Contains-append_left, Contains-push}
use Rattle.std.proofs.lemmas.Option.{slice_get_within}
use Rattle.aero_model.specs.declared.numbered.Numbered.{Numbered}
use Rattle.aero_model.specs.Blocks.{Transaction, transaction}
use Rattle.aero_model.specs.Graph.{Edge}
use Rattle.aero_model.specs.Serial.{IsFirstPlace}
use Rattle.aero_model.proofs.Stability.{Agree, agree_front, agree_back, agree_less, transaction_same, conflict_same}
use Rattle.aero_model.proofs.SerialOrders.{at_push}
use Rattle.aero_engine.specs.declared.slot.Slot.TheVariants.{OfThread, LastWrite, LastRelease}
use Rattle.aero_engine.specs.Slots.{of_slot, last_of}
use Rattle.aero_engine.proofs.LastEvents.{last_same}
use Rattle.aero_order.specs.LastNumbers.{AreLinked}
use Rattle.aero_order.specs.Near.{Near, own, read, write, write_after_read, acquire, join}
use Rattle.aero_order.specs.TransactionNumbers.{AreFirsts, HasNumber, AreEdges}
use Rattle.aero_order.proofs.Chains.{near_conflict}

at_push_front : (xs : List ℕ) (y i x : ℕ) → slice_get xs i ≡ Some x → slice_get (xs ++ y ∷ []) i ≡ Some x
at_push_front [] y i x at = absurd (cc)
at_push_front (z ∷ zs) y zero x at = at
at_push_front (z ∷ zs) y (suc i) x at = at_push_front zs y i x at

at_push_last : (xs : List ℕ) (y : ℕ) → slice_get (xs ++ y ∷ []) (length xs) ≡ Some y
at_push_last [] y = refl
at_push_last (z ∷ zs) y = at_push_last zs y

-- the near events of traces that agree on the first n events
module _ (n : ℕ) (a b : List Numbered) (h : Agree n a b) where
  last_at : (test : Numbered → Bool) (i j : ℕ) → j < n → last_of test a j ≡ Some i → last_of test b j ≡ Some i
  last_at test i j l e = sym (last_same test j a b (agree_less j n a b (omega arith) h)) ∙ e

  event_same : (j : ℕ) (e : Numbered) → j < n → slice_get a j ≡ Some e → slice_get b j ≡ Some e
  event_same j e l at = sym (h.same j l) ∙ at

  pub near_same : (i j : ℕ) → j < n → Near a i j → Near b i j
  near_same i j l (own e at last) = own e (event_same j e l at) (last_at (of_slot (OfThread e.thread)) i j l last)
  near_same i j l (read e x at is last) = read e x (event_same j e l at) is (last_at (of_slot (LastWrite x)) i j l last)
  near_same i j l (write e x at is last) = write e x (event_same j e l at) is (last_at (of_slot (LastWrite x)) i j l last)
  near_same i j l (write_after_read d e x m at_i is_read at is_write none) =
      write_after_read d e x m (event_same i d (omega arith) at_i) is_read (event_same j e l at) is_write (λ k f p q at_k. none k f p q (h.same k (omega arith) ∙ at_k))
  near_same i j l (acquire e o at is last) = acquire e o (event_same j e l at) is (last_at (of_slot (LastRelease o)) i j l last)
  near_same i j l (join e u at is last) = join e u (event_same j e l at) is (last_at (λ f. f.thread == u) i j l last)

module _ (trace : List Numbered) (e : Numbered) where
  abbrev n : ℕ
  n = length trace

  abbrev more : List Numbered
  more = trace ++ e ∷ []

  agree : Agree (length trace) trace (trace ++ e ∷ [])
  agree = agree_front (length trace) trace (e ∷ []) (le_refl (length trace))

  length_more : length (trace ++ e ∷ []) ≡ suc (length trace)
  length_more = let l = length_push trace e in omega arith

  same : (i : ℕ) → i < n → transaction trace i ≡ transaction more i
  same i l = transaction_same n trace more agree i l

  first_more : (m : ℕ) → IsFirstPlace trace m → IsFirstPlace more m
  first_more m f =
      let w = f.within in
      record { within = omega (arith, length_more, w); first = λ k l q. f.first k l (same k (omega arith) ∙ q ∙ sym (same m w)) }

  first_less : (m : ℕ) → m < n → IsFirstPlace more m → IsFirstPlace trace m
  first_less m w f = record { within = w; first = λ k l q. f.first k l (sym (same k (omega arith)) ∙ q ∙ same m w) }

  -- the event begins a transaction: a number more
  pub firsts_begun : (firsts : List ℕ) → ((m : ℕ) → m < n → transaction more m ≢ transaction more n) → AreFirsts trace firsts → AreFirsts more (firsts ++ n ∷ [])
  firsts_begun firsts new f = record { places = places; rising = rising; all = all }
    where
      within : (v m : ℕ) → slice_get firsts v ≡ Some m → m < n
      within v m at = (f.places v m at).within

      places : (v m : ℕ) → slice_get (firsts ++ n ∷ []) v ≡ Some m → IsFirstPlace more m
      places v m at = elim (at_push firsts n v m at) [
        | inl old ↦ first_more m (f.places v m old)
        | inr h ↦ subst (IsFirstPlace more) (sym h.1) record { within = omega (arith, length_more); first = new }
      ]

      rising : (u v k m : ℕ) → u < v → slice_get (firsts ++ n ∷ []) u ≡ Some k → slice_get (firsts ++ n ∷ []) v ≡ Some m → k < m
      rising u v k m l at_u at_v = go (at_push firsts n u k at_u) (at_push firsts n v m at_v)
        where
          go : (slice_get firsts u ≡ Some k) ⊎ ((u ≡ length firsts) × (k ≡ n)) → (slice_get firsts v ≡ Some m) ⊎ ((v ≡ length firsts) × (m ≡ n)) → k < m
          go (inl a) (inl b) = f.rising u v k m l a b
          go (inl a) (inr b) = omega (arith, within u k a, b.1)
          go (inr a) (inl b) = absurd (omega (arith, a.0, slice_get_within firsts v m b))
          go (inr a) (inr b) = absurd (omega (arith, a.0, b.0))

      all : (m : ℕ) → IsFirstPlace more m → Contains (firsts ++ n ∷ []) m
      all m first = elim (cases_eq m n) [
        | inl q ↦ subst (Contains (firsts ++ n ∷ [])) (sym q) (Contains-push firsts n)
        | inr d ↦ Contains-append_left firsts (n ∷ []) m (f.all m (first_less m (omega (arith, first.within, length_more, d)) first))
      ]

  -- it belongs to one that has begun: the same numbers
  pub firsts_kept : (firsts : List ℕ) (m : ℕ) → m < n → transaction more m ≡ transaction more n → AreFirsts trace firsts → AreFirsts more firsts
  firsts_kept firsts m l q f = record {
    places = λ v k at. first_more k (f.places v k at);
    rising = f.rising;
    all = λ k first. elim (cases_eq k n) [
      | inl e' ↦ absurd (first.first m (omega (arith, e', l)) (q ∙ ap (transaction more) (sym e')))
      | inr d ↦ f.all k (first_less k (omega (arith, first.within, length_more, d)) first)
    ];
  }

  -- a number stays that of its transaction
  pub number_more : (firsts : List ℕ) (y : ℕ) (x : Transaction) (v : ℕ) → AreFirsts trace firsts → HasNumber trace firsts x v → HasNumber more (firsts ++ y ∷ []) x v
  number_more firsts y x v f (m, at, of) = (m, at_push_front firsts y v m at, sym (same m (f.places v m at).within) ∙ of)

  pub number_kept : (firsts : List ℕ) (x : Transaction) (v : ℕ) → AreFirsts trace firsts → HasNumber trace firsts x v → HasNumber more firsts x v
  number_kept firsts x v f (m, at, of) = (m, at, sym (same m (f.places v m at).within) ∙ of)

  -- the number of a transaction that begins
  pub number_new : (firsts : List ℕ) → HasNumber more (firsts ++ n ∷ []) (transaction more n) (length firsts)
  number_new firsts = (n, at_push_last firsts n, refl)

  edge_more : (x y : Transaction) → Edge trace n x y → Edge more (length more) x y
  edge_more x y d =
      let c = d.conflict in
      let l = c.earlier in
      let w = d.within in
      record {
        apart = d.apart;
        from = d.from;
        from_in = sym (same d.from (omega arith)) ∙ d.from_in;
        to = d.to;
        to_in = sym (same d.to w) ∙ d.to_in;
        within = omega (arith, length_more, w);
        conflict = conflict_same n trace more agree d.from d.to w c;
      }

  -- the event's edges to the number v come from the transactions of those near it
  pub record AreSources (firsts : List ℕ) (v : ℕ) (sources : List ℕ) : Type 0 where
    pub sound : (u : ℕ) → Contains sources u → u ≢ v → (i : ℕ) × Near more i n × (transaction more i ≢ transaction more n) × HasNumber more firsts (transaction more i) u
    pub near : (i : ℕ) → Near more i n → transaction more i ≢ transaction more n → (u : ℕ) × HasNumber more firsts (transaction more i) u × Contains sources u × (u ≢ v)

  pub edges_more : (firsts longer : List ℕ) (edges longest : List (ℕ × ℕ)) (v : ℕ) (sources : List ℕ) → ((x : Transaction) (u : ℕ) → HasNumber trace firsts x u → HasNumber more longer x u) → HasNumber more longer (transaction more n) v → AreSources longer v sources → AreLinked edges v sources longest → AreEdges trace firsts edges → AreEdges more longer longest
  edges_more firsts longer edges longest v sources keeps at_v s linked old = record { sound = sound; near = near }
    where
      within : (i j : ℕ) → Near more i j → j < suc n
      within i j d = let c = near_conflict more i j d in omega (arith, slice_get_within more j c.second c.second_at, length_more)

      sound : (u w : ℕ) → Contains longest (u, w) → (x y : Transaction) × HasNumber more longer x u × HasNumber more longer y w × Edge more (length more) x y
      sound u w c = elim (linked.only u w c) [
        | inl o ↦ (let r = old.sound u w o in (r.0, r.1, keeps r.0 u r.2, keeps r.1 w r.3, edge_more r.0 r.1 r.4))
        | inr p ↦
            let r = s.sound u p.0 p.1 in
            let d : Edge more (length more) (transaction more r.0) (transaction more n) =
            record { apart = r.2; from = r.0; from_in = refl; to = n; to_in = refl; within = omega (arith, length_more); conflict = near_conflict more r.0 n r.1 } in
            (transaction more r.0, transaction more n, r.3, subst (HasNumber more longer (transaction more n)) (sym p.2) at_v, d)
      ]

      near : (i j : ℕ) → Near more i j → transaction more i ≢ transaction more j → (u w : ℕ) × HasNumber more longer (transaction more i) u × HasNumber more longer (transaction more j) w × Contains longest (u, w)
      near i j d apart = elim (cases_eq j n) [
        | inl q ↦
            let r = s.near i (subst (Near more i) q d) (λ o. apart (o ∙ ap (transaction more) (sym q))) in
            (r.0, v, r.1, subst (λ k. HasNumber more longer (transaction more k) v) (sym q) at_v, linked.each r.0 r.2 r.3)
        | inr other ↦
            let less : j < n = omega (arith, within i j d) in
            let before = (near_conflict more i j d).earlier in
            let r = old.near i j (near_same n more trace (agree_back n trace more agree) i j less d) (λ o. apart (sym (same i (omega arith)) ∙ o ∙ same j less)) in
            (r.0, r.1, subst (λ x. HasNumber more longer x r.0) (same i (omega arith)) (keeps (transaction trace i) r.0 r.2), subst (λ x. HasNumber more longer x r.1) (same j less) (keeps (transaction trace j) r.1 r.3), linked.stay (r.0, r.1) r.4)
      ]
