-- The slots that an event takes stand for all that conflicts with it.
use Rattle.std.proofs.Common.{◌≡◌, ◌≢◌, ℕ, ◌⊎◌, inl, inr, ⊎_elim, List, [], ◌∷◌, ◌++◌, Some, refl, sym, ap, ◌∙◌, subst, map}
use Rattle.std.specs.Prelude.{slice_get, Contains}
use Rattle.std.proofs.lemmas.Bool.{cases_eq}
use Rattle.std.proofs.lemmas.List.Elements.{Contains-append_left, Contains-append_right, Contains-append_cases}
use Rattle.std.proofs.lemmas.Option.{same_Some}
use Rattle.aero_model.specs.declared.numbered.Numbered.{Numbered}
use Rattle.aero_model.specs.declared.numbered.What.TheVariants.{Write, Join}
use Rattle.aero_model.specs.Graph.{Conflict}
use Rattle.aero_model.specs.Shape.{IsWellFormed}
use Rattle.aero_model.proofs.Elements.{none_in, here, there, first_or_rest, Contains-map, Contains-map_from}
use Rattle.aero_model.proofs.Reach.{Reach, reach_trans}
use Rattle.aero_model.proofs.WellFormed.{joins_other}
use Rattle.aero_engine.specs.declared.slot.Slot.{Slot}
use Rattle.aero_engine.specs.declared.slot.Slot.TheVariants.{OfThread, LastWrite, LastRead, LastRelease}
use Rattle.aero_engine.specs.Slots.{of_slot, last_event}
use Rattle.aero_engine.specs.Takes.{HasActed, IfForeign, nobodys, its_own, foreign, AreReaders, Takes}
use Rattle.aero_engine.specs.Takes as takes
use Rattle.aero_engine.proofs.LastEvents.{IsLast, is_last}
use Rattle.aero_engine.proofs.Sources.{Source, own, read, write, write_after_read, acquire, join, by_reader, of_plain, of_read, of_acquire, of_join, of_write, source_conflicts, Covered, covered, latest, reach_latest}

-- the event at place q is of another thread than t
pub record IsForeign (trace : List Numbered) (q t : ℕ) : Type 0 where
  pub event : Numbered
  pub event_at : slice_get trace q ≡ Some event
  pub other : event.thread ≢ t

-- place p reaches the last event of one of the slots
pub record Found (trace : List Numbered) (n : ℕ) (ss : List Slot) (p : ℕ) : Type 0 where
  pub slot : Slot
  pub among : Contains ss slot
  pub place : ℕ
  pub last : last_event trace n slot ≡ Some place
  pub reach : Reach trace n p place

-- the last events of the slots conflict with event e at place n, and what conflicts with it reaches one of them
pub record Stand (trace : List Numbered) (n : ℕ) (e : Numbered) (ss : List Slot) : Type 0 where
  pub each : (s : Slot) (q : ℕ) → Contains ss s → last_event trace n s ≡ Some q → Conflict trace q n × ((s ≡ OfThread e.thread) ⊎ IsForeign trace q e.thread)
  pub all : (p : ℕ) → Conflict trace p n → Found trace n ss p

module _ (trace : List Numbered) (n : ℕ) (e : Numbered) where
  -- the slot's last event, if it has one, is of another thread
  abbrev IsOthers : Slot → Type 0
  IsOthers s = (q : ℕ) → last_event trace n s ≡ Some q → IsForeign trace q e.thread

  abbrev IsFair : Slot → Type 0
  IsFair s = Source trace n e s × ((s ≡ OfThread e.thread) ⊎ IsOthers s)

  -- a slot that is taken where it is another thread's
  others_each : (s r : Slot) (ss : List Slot) → IfForeign trace n e.thread s ss → Contains ss r → (r ≡ s) × IsOthers s
  others_each s r _ (nobodys last) a = absurd (none_in a)
  others_each s r _ (its_own q f last at h) a = absurd (none_in a)
  others_each s r _ (foreign q f last at h) a =
      ⊎_elim
      (λ k. (k, λ p last'. record { event = f; event_at = ap (slice_get trace) (same_Some p q (sym last' ∙ last)) ∙ at; other = h }))
      (λ b. absurd (none_in b))
      (first_or_rest s [] a)

  others_all : (s : Slot) (ss : List Slot) (q : ℕ) → IfForeign trace n e.thread s ss → last_event trace n s ≡ Some q → IsForeign trace q e.thread → Contains ss s
  others_all s _ q (nobodys none) last f = cc
  others_all s _ q (its_own p g last' at h) last f =
      let same = same_Some g f.event (sym at ∙ ap (slice_get trace) (same_Some p q (sym last' ∙ last)) ∙ f.event_at) in
      absurd (f.other (ap (λ (a : Numbered). a.thread) (sym same) ∙ h))
  others_all s _ q (foreign p g last' at h) last f = here []

  fair_others : (s r : Slot) (ss : List Slot) → Source trace n e s → IfForeign trace n e.thread s ss → Contains ss r → IsFair r
  fair_others s r ss source iff a = let h = others_each s r ss iff a in subst IsFair (sym h.0) (source, inr h.1)

module _ (trace : List Numbered) (ok : IsWellFormed trace) (n : ℕ) (e : Numbered) (at : slice_get trace n ≡ Some e) where
  -- it is enough that each slot is a source, the thread's own or another's, and that each source of another thread is among them
  stand_from : (ss : List Slot) → Contains ss (OfThread e.thread) → ((s : Slot) → Contains ss s → IsFair trace n e s) → ((s : Slot) (q : ℕ) → Source trace n e s → last_event trace n s ≡ Some q → IsForeign trace q e.thread → Contains ss s) → Stand trace n e ss
  stand_from ss own_in fair others = record { each = each; all = λ p c. found p (covered trace ok n e at p c) }
    where
      each : (s : Slot) (q : ℕ) → Contains ss s → last_event trace n s ≡ Some q → Conflict trace q n × ((s ≡ OfThread e.thread) ⊎ IsForeign trace q e.thread)
      each s q a last = let t = fair s a in (source_conflicts trace ok n e at s q t.0 last, ⊎_elim (λ h. inl h) (λ f. inr (f q last)) t.1)

      found : (p : ℕ) → Covered trace ok n e at p → Found trace n ss p
      found p v = ⊎_elim of_own of_other (cases_eq r.event.thread e.thread)
        where
          r : IsLast (of_slot v.slot) trace n v.place
          r = is_last (of_slot v.slot) trace n v.place v.last

          of_other : r.event.thread ≢ e.thread → Found trace n ss p
          of_other h =
              record { slot = v.slot; among = others v.slot v.place v.source v.last (record { event = r.event; event_at = r.event_at; other = h }); place = v.place; last = v.last; reach = v.reach }

          of_own : r.event.thread ≡ e.thread → Found trace n ss p
          of_own h =
              let k = latest trace ok n e.thread (record { place = v.place; below = r.below; event = r.event; event_at = r.event_at; thread = h }) in
              record { slot = OfThread e.thread; among = own_in; place = k.place; last = k.last; reach = reach_trans trace n p v.place k.place v.reach (reach_latest trace n e.thread k v.place r.event r.below r.event_at h) }

  -- the thread's own slot
  own_fair : (s : Slot) → s ≡ OfThread e.thread → IsFair trace n e s
  own_fair s h = subst (IsFair trace n e) (sym h) (own, inl refl)

  own_among : (s : Slot) (ss : List Slot) → s ≡ OfThread e.thread → Contains (OfThread e.thread ∷ ss) s
  own_among s ss h = subst (λ r. Contains (OfThread e.thread ∷ ss) r) (sym h) (here ss)

  -- alone
  stand_alone : ((s : Slot) → Source trace n e s → s ≡ OfThread e.thread) → Stand trace n e (OfThread e.thread ∷ [])
  stand_alone only = stand_from (OfThread e.thread ∷ []) (here []) (λ s a. own_fair s (⊎_elim (λ h. h) (λ b. absurd (none_in b)) (first_or_rest (OfThread e.thread) [] a))) (λ s q source last f. own_among s [] (only s source))

  -- and one other slot
  stand_two : (s : Slot) (ss : List Slot) → Source trace n e s → ((r : Slot) → Source trace n e r → (r ≡ OfThread e.thread) ⊎ (r ≡ s)) → IfForeign trace n e.thread s ss → Stand trace n e (OfThread e.thread ∷ ss)
  stand_two s ss source only iff =
      stand_from (OfThread e.thread ∷ ss) (here ss)
      (λ r a. ⊎_elim (own_fair r) (fair_others trace n e s r ss source iff) (first_or_rest (OfThread e.thread) ss a))
      (λ r q source last f. ⊎_elim (own_among r ss) (λ h. there (OfThread e.thread) ss (subst (λ z. Contains ss z) (sym h) (others_all trace n e s ss q iff (subst (λ z. last_event trace n z ≡ Some q) h last) f))) (only r source))

  -- the thread that is joined
  joined_foreign : (u : ℕ) → e.what ≡ Join u → HasActed trace n u → IfForeign trace n e.thread (OfThread u) (OfThread u ∷ [])
  joined_foreign u h a =
      let k = latest trace ok n u a in
      foreign k.place k.event k.last k.event_at (λ same. joins_other trace ok n u e at h (sym k.thread ∙ same))

  module _ (x : ℕ) (ss : List Slot) (us : List ℕ) (h : e.what ≡ Write x) (iff : IfForeign trace n e.thread (LastWrite x) ss) (readers : AreReaders trace n e.thread x us) where
    fair_reader : (r : Slot) → Contains (map (LastRead x) us) r → IsFair trace n e r
    fair_reader r a =
        let m = Contains-map_from (LastRead x) us r a in
        subst (IsFair trace n e) m.2 (write_after_read x m.0 h, inr (λ q last. let g = by_reader trace n x m.0 q last in record { event = g.0; event_at = g.2; other = λ k. readers.apart (subst (λ v. Contains us v) (sym g.3 ∙ k) m.1) }))

    all_readers : (r : Slot) (q : ℕ) → last_event trace n r ≡ Some q → IsForeign trace q e.thread → (r ≡ OfThread e.thread) ⊎ ((r ≡ LastWrite x) ⊎ ((u : ℕ) × (r ≡ LastRead x u))) → Contains (OfThread e.thread ∷ (ss ++ map (LastRead x) us)) r
    all_readers r q last f (inl k) = own_among r (ss ++ map (LastRead x) us) k
    all_readers r q last f (inr (inl k)) = there (OfThread e.thread) (ss ++ map (LastRead x) us) (Contains-append_left ss (map (LastRead x) us) r (subst (λ z. Contains ss z) (sym k) (others_all trace n e (LastWrite x) ss q iff (subst (λ z. last_event trace n z ≡ Some q) k last) f)))
    all_readers r q last f (inr (inr (u, k))) =
        let g = by_reader trace n x u q (subst (λ z. last_event trace n z ≡ Some q) k last) in
        let event = same_Some f.event g.0 (sym f.event_at ∙ g.2) in
        let reader = readers.all q g.0 g.1 g.2 g.4 (λ m. f.other (ap (λ (a : Numbered). a.thread) event ∙ m)) in
        there (OfThread e.thread) (ss ++ map (LastRead x) us) (Contains-append_right ss (map (LastRead x) us) r (subst (λ z. Contains (map (LastRead x) us) z) (sym k) (Contains-map (LastRead x) us u (subst (λ v. Contains us v) g.3 reader))))

    stand_write : Stand trace n e (OfThread e.thread ∷ (ss ++ map (LastRead x) us))
    stand_write =
        stand_from (OfThread e.thread ∷ (ss ++ map (LastRead x) us)) (here (ss ++ map (LastRead x) us))
        (λ r a. ⊎_elim (own_fair r) (λ b. ⊎_elim (fair_others trace n e (LastWrite x) r ss (write x h) iff) (fair_reader r) (Contains-append_cases ss (map (LastRead x) us) r b)) (first_or_rest (OfThread e.thread) (ss ++ map (LastRead x) us) a))
        (λ r q source last f. all_readers r q last f (of_write trace n e x r h source))

  pub stand : (ss : List Slot) → Takes trace n e ss → Stand trace n e ss
  stand _ (takes.plain h) = stand_alone (λ s. of_plain trace n e s h)
  stand _ (takes.read x ss h iff) = stand_two (LastWrite x) ss (read x h) (λ r. of_read trace n e x r h) iff
  stand _ (takes.write x ss us h iff readers) = stand_write x ss us h iff readers
  stand _ (takes.acquire l ss h iff) = stand_two (LastRelease l) ss (acquire l h) (λ r. of_acquire trace n e l r h) iff
  stand _ (takes.join u h a) = stand_two (OfThread u) (OfThread u ∷ []) (join u h a) (λ r source. ⊎_elim (λ k. inl k) (λ k. inr k.0) (of_join trace n e u r h source)) (joined_foreign u h a)
  stand _ (takes.idle_join u h idle) = stand_alone (λ s source. ⊎_elim (λ k. k) (λ k. absurd (idle k.1)) (of_join trace n e u s h source))
