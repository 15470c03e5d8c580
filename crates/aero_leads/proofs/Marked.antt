-- The marks that an event takes stand for all that conflicts with it.
use Rattle.std.proofs.Common.{◌≡◌, ◌≢◌, ℕ, ◌<◌, ◌≤◌, ◌⊎◌, inl, inr, ⊎_elim, List, [], ◌∷◌, ◌++◌, Option, Some, None, refl, sym, ap, ◌∙◌, subst, arith}
use Rattle.std.specs.Prelude.{slice_get, Contains}
use Rattle.std.proofs.lemmas.Bool.{cases_lt, cases_eq}
use Rattle.std.proofs.lemmas.List.Elements.{Contains-append_left, Contains-append_right, Contains-append_cases}
use Rattle.std.proofs.lemmas.Option.{same_Some}
use Rattle.aero_model.specs.declared.numbered.Numbered.{Numbered}
use Rattle.aero_model.specs.declared.numbered.What.TheVariants.{Read, Write, Join}
use Rattle.aero_model.specs.Graph.{Conflict, read_write}
use Rattle.aero_model.specs.Shape.{IsWellFormed}
use Rattle.aero_model.proofs.Elements.{none_in, here, first_or_rest}
use Rattle.aero_model.proofs.Reach.{Reach, stay, reach_trans}
use Rattle.aero_model.proofs.WellFormed.{joins_other}
use Rattle.aero_engine.specs.declared.slot.Slot.{Slot}
use Rattle.aero_engine.specs.declared.slot.Slot.TheVariants.{OfThread, LastWrite, LastRead, LastRelease}
use Rattle.aero_engine.specs.Slots.{of_slot, last_event}
use Rattle.aero_engine.specs.Takes.{HasActed}
use Rattle.aero_engine.proofs.LastEvents.{write_is, to_thread, IsLast, is_last}
use Rattle.aero_engine.proofs.Sources.{Source, read, write, acquire, join, by_reader, of_plain, of_read, of_acquire, of_join, of_write, source_conflicts, Covered, covered, latest, reach_latest, reach_later}
use Rattle.aero_leads.specs.Leads.{IsPlaceOf}
use Rattle.aero_leads.specs.Marks.{Mark, mark, IsPassed, IfOther, nobodys, its_own, other, IsReadAt, AreReads, TakesMarks}
use Rattle.aero_leads.specs.Marks as takes

-- the mark's place is of its thread, which is another than the event's, and conflicts with the event
pub record IsTaken (trace : List Numbered) (n : ℕ) (e : Numbered) (m : Mark) : Type 0 where
  pub event : Numbered
  pub event_at : slice_get trace m.place ≡ Some event
  pub thread : event.thread ≡ m.thread
  pub apart : m.thread ≢ e.thread
  pub conflict : Conflict trace m.place n

-- place p reaches the last event of the event's own thread
pub record ReachesOwn (trace : List Numbered) (n : ℕ) (e : Numbered) (p : ℕ) : Type 0 where
  pub place : ℕ
  pub last : last_event trace n (OfThread e.thread) ≡ Some place
  pub reach : Reach trace n p place

pub record ReachesMark (trace : List Numbered) (n : ℕ) (ms : List Mark) (p : ℕ) : Type 0 where
  pub it : Mark
  pub among : Contains ms it
  pub reach : Reach trace n p it.place

-- place p reaches one to which no open block leads
pub record ReachesPassed (trace : List Numbered) (n p : ℕ) : Type 0 where
  pub place : ℕ
  pub passed : IsPassed trace n place
  pub reach : Reach trace n p place

pub record Stood (trace : List Numbered) (n : ℕ) (e : Numbered) (ms : List Mark) : Type 0 where
  pub each : (m : Mark) → Contains ms m → IsTaken trace n e m
  pub all : (p : ℕ) → Conflict trace p n → ReachesOwn trace n e p ⊎ (ReachesMark trace n ms p ⊎ ReachesPassed trace n p)

pub taken_place : (trace : List Numbered) (n : ℕ) (e : Numbered) (m : Mark) → IsTaken trace n e m → IsPlaceOf trace n m.thread m.place
taken_place trace n e m i = let c = i.conflict in record { below = c.earlier; event = i.event; event_at = i.event_at; of_thread = to_thread m.thread i.event i.thread }

pub last_place : (trace : List Numbered) (n o q : ℕ) → last_event trace n (OfThread o) ≡ Some q → IsPlaceOf trace n o q
last_place trace n o q last = let r = is_last (of_slot (OfThread o)) trace n q last in record { below = r.below; event = r.event; event_at = r.event_at; of_thread = r.passed }

module _ (trace : List Numbered) (ok : IsWellFormed trace) (n : ℕ) (e : Numbered) (at : slice_get trace n ≡ Some e) where
  abbrev Way : List Mark → ℕ → Type 0
  Way ms q = ReachesOwn trace n e q ⊎ (ReachesMark trace n ms q ⊎ ReachesPassed trace n q)

  -- what reaches a place goes on from there
  way_from : (ms : List Mark) (p q : ℕ) → Reach trace n p q → Way ms q → Way ms p
  way_from ms p q to (inl w) = inl (record { place = w.place; last = w.last; reach = reach_trans trace n p q w.place to w.reach })
  way_from ms p q to (inr (inl w)) = inr (inl (record { it = w.it; among = w.among; reach = let m = w.it in reach_trans trace n p q m.place to w.reach }))
  way_from ms p q to (inr (inr w)) = inr (inr (record { place = w.place; passed = w.passed; reach = reach_trans trace n p q w.place to w.reach }))

  -- from the last event of each source there is a way
  stood_from : (ms : List Mark) → ((m : Mark) → Contains ms m → IsTaken trace n e m) → ((s : Slot) (q : ℕ) → Source trace n e s → last_event trace n s ≡ Some q → Way ms q) → Stood trace n e ms
  stood_from ms each ways = record { each = each; all = λ p c. found p (covered trace ok n e at p c) }
    where
      found : (p : ℕ) → Covered trace ok n e at p → Way ms p
      found p v =
          way_from ms p v.place v.reach (ways v.slot v.place v.source v.last)

  -- the last event of the own thread
  own_way : (ms : List Mark) (q : ℕ) → last_event trace n (OfThread e.thread) ≡ Some q → Way ms q
  own_way ms q last = let b = last_place trace n e.thread q last in inl (record { place = q; last = last; reach = stay b.below })

  -- an event of the own thread
  by_own : (ms : List Mark) (q : ℕ) (f : Numbered) → q < n → slice_get trace q ≡ Some f → f.thread ≡ e.thread → Way ms q
  by_own ms q f l at_q h =
      let k = latest trace ok n e.thread (record { place = q; below = l; event = f; event_at = at_q; thread = h }) in
      inl (record { place = k.place; last = k.last; reach = reach_latest trace n e.thread k q f l at_q h })

  -- a mark itself
  mark_way : (ms : List Mark) (o q : ℕ) → q < n → Contains ms (mark o q) → Way ms q
  mark_way ms o q l a = inr (inl (record { it = mark o q; among = a; reach = stay l }))

  -- a slot's last event, if it is of another thread
  other_each : (s : Slot) (ms : List Mark) → Source trace n e s → IfOther trace n e.thread s ms → (m : Mark) → Contains ms m → IsTaken trace n e m
  other_each s _ source (nobodys last) m a = absurd (none_in a)
  other_each s _ source (its_own q f last at_q h) m a = absurd (none_in a)
  other_each s _ source (other q f last at_q h) m a =
      ⊎_elim
      (λ k. subst (IsTaken trace n e) (sym k) (record { event = f; event_at = at_q; thread = refl; apart = h; conflict = source_conflicts trace ok n e at s q source last }))
      (λ b. absurd (none_in b))
      (first_or_rest (mark f.thread q) [] a)

  other_way : (s : Slot) (ms : List Mark) (q : ℕ) → IfOther trace n e.thread s ms → last_event trace n s ≡ Some q → Way ms q
  other_way s _ q (nobodys none) last = cc
  other_way s _ q (its_own p f last_p at_p h) last =
      let r = is_last (of_slot s) trace n p last_p in
      subst (Way []) (same_Some p q (sym last_p ∙ last)) (by_own [] p f r.below at_p h)
  other_way s _ q (other p f last_p at_p h) last =
      let r = is_last (of_slot s) trace n p last_p in
      subst (Way (mark f.thread p ∷ [])) (same_Some p q (sym last_p ∙ last)) (mark_way (mark f.thread p ∷ []) f.thread p r.below (here []))

  -- nothing is taken of others
  stood_alone : ((s : Slot) → Source trace n e s → s ≡ OfThread e.thread) → Stood trace n e []
  stood_alone only = stood_from [] (λ m a. absurd (none_in a)) (λ s q source last. own_way [] q (subst (λ r. last_event trace n r ≡ Some q) (only s source) last))

  -- one slot's last event, if it is of another thread
  stood_one : (s : Slot) (ms : List Mark) → Source trace n e s → ((r : Slot) → Source trace n e r → (r ≡ OfThread e.thread) ⊎ (r ≡ s)) → IfOther trace n e.thread s ms → Stood trace n e ms
  stood_one s ms source only iff =
      stood_from ms (other_each s ms source iff)
      (λ r q from last. ⊎_elim
      (λ h. own_way ms q (subst (λ z. last_event trace n z ≡ Some q) h last))
      (λ h. other_way s ms q iff (subst (λ z. last_event trace n z ≡ Some q) h last))
      (only r from))

  -- a join
  joined_mark : (u q : ℕ) → e.what ≡ Join u → (a : HasActed trace n u) → last_event trace n (OfThread u) ≡ Some q → IfOther trace n e.thread (OfThread u) (mark u q ∷ [])
  joined_mark u q h a last =
      let k = latest trace ok n u a in
      let place = same_Some k.place q (sym k.last ∙ last) in
      subst (λ v. IfOther trace n e.thread (OfThread u) (mark v q ∷ [])) k.thread
      (other q k.event last (ap (slice_get trace) (sym place) ∙ k.event_at) (λ same. joins_other trace ok n u e at h (sym k.thread ∙ same)))

  module _ (x : ℕ) (ms rs : List Mark) (h : e.what ≡ Write x) (iff : IfOther trace n e.thread (LastWrite x) ms) (reads : AreReads trace n e.thread x rs) where
    read_each : (m : Mark) → Contains rs m → IsTaken trace n e m
    read_each m a =
        let r = reads.each m a in
        let g : IsReadAt trace n x m.thread m.place = r.1 in
        record {
          event = g.event;
          event_at = g.event_at;
          thread = g.thread;
          apart = r.0;
          conflict = record { earlier = g.below; first = g.event; first_at = g.event_at; second = e; second_at = at; conflict = read_write x g.reads h };
        }

    left : (q : ℕ) → Way ms q → Way (ms ++ rs) q
    left q (inl w) = inl w
    left q (inr (inl w)) = inr (inl (record { it = w.it; among = Contains-append_left ms rs w.it w.among; reach = w.reach }))
    left q (inr (inr w)) = inr (inr w)

    -- a last read is a mark, or reaches the last write
    read_way : (u q : ℕ) → last_event trace n (LastRead x u) ≡ Some q → Way (ms ++ rs) q
    read_way u q last = ⊎_elim (λ same. by_own (ms ++ rs) q g.0 g.1 g.2 (g.3 ∙ same)) (λ apart. go apart (last_event trace n (LastWrite x)) refl) (cases_eq u e.thread)
      where
        g : (f : Numbered) × (q < n) × (slice_get trace q ≡ Some f) × (f.thread ≡ u) × (f.what ≡ Read x)
        g = by_reader trace n x u q last

        marked : u ≢ e.thread → ((p : ℕ) → last_event trace n (LastWrite x) ≡ Some p → p < q) → Way (ms ++ rs) q
        marked apart after = ⊎_elim (λ a. mark_way (ms ++ rs) u q g.1 (Contains-append_right ms rs (mark u q) a)) (λ passed. inr (inr (record { place = q; passed = passed; reach = stay g.1 }))) (reads.all u q apart last after)

        go : u ≢ e.thread → (w : Option ℕ) → last_event trace n (LastWrite x) ≡ w → Way (ms ++ rs) q
        go apart None none = marked apart (λ p some. cc)
        go apart (Some p) some = ⊎_elim (λ l. marked apart (λ p' some'. let same = same_Some p p' (sym some ∙ some') in omega arith)) superseded (cases_lt p q)
          where
            r : IsLast (of_slot (LastWrite x)) trace n p
            r = is_last (of_slot (LastWrite x)) trace n p some

            superseded : q ≤ p → Way (ms ++ rs) q
            superseded le =
                let to = reach_later trace n q p g.0 r.event le r.below g.2 r.event_at (λ l. read_write x g.4 (write_is x r.event.what r.passed)) in
                way_from (ms ++ rs) q p to (left p (other_way (LastWrite x) ms p iff some))

    stood_write : Stood trace n e (ms ++ rs)
    stood_write =
        stood_from (ms ++ rs)
        (λ m a. ⊎_elim (other_each (LastWrite x) ms (write x h) iff m) (read_each m) (Contains-append_cases ms rs m a))
        (λ s q source last. ⊎_elim
        (λ k. own_way (ms ++ rs) q (subst (λ z. last_event trace n z ≡ Some q) k last))
        (λ k. ⊎_elim
        (λ j. left q (other_way (LastWrite x) ms q iff (subst (λ z. last_event trace n z ≡ Some q) j last)))
        (λ (j : (u : ℕ) × (s ≡ LastRead x u)). read_way j.0 q (subst (λ z. last_event trace n z ≡ Some q) j.1 last))
        k)
        (of_write trace n e x s h source))

  pub stood : (ms : List Mark) → TakesMarks trace n e ms → Stood trace n e ms
  stood _ (takes.plain h) = stood_alone (λ s. of_plain trace n e s h)
  stood _ (takes.read x ms h iff) = stood_one (LastWrite x) ms (read x h) (λ r. of_read trace n e x r h) iff
  stood _ (takes.write x ms rs h iff reads) = stood_write x ms rs h iff reads
  stood _ (takes.acquire l ms h iff) = stood_one (LastRelease l) ms (acquire l h) (λ r. of_acquire trace n e l r h) iff
  stood _ (takes.join u q h a last) = stood_one (OfThread u) (mark u q ∷ []) (join u h a) (λ r source. ⊎_elim (λ k. inl k) (λ k. inr k.0) (of_join trace n e u r h source)) (joined_mark u q h a last)
  stood _ (takes.idle_join u h idle) = stood_alone (λ s source. ⊎_elim (λ k. k) (λ k. absurd (idle k.1)) (of_join trace n e u s h source))
