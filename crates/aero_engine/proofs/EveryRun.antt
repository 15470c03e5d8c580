-- Each event takes the clocks of some slots, so each run has clocks.
use Rattle.std.proofs.Common.{◌≡◌, ◌≢◌, ◌⊎◌, ℕ, zero, suc, ◌≤◌, inl, inr, ⊎_elim, List, [], ◌∷◌, length, Option, Some, None, refl, sym, ◌∙◌, ap, subst, arith}
use Rattle.std.specs.Prelude.{true, false, slice_get, Contains}
use Rattle.std.proofs.lemmas.Bool.{cases_eq, cases_Bool, eqb-true, eq-eqb, both_ways}
use Rattle.std.proofs.lemmas.Option.{same_Some}
use Rattle.aero_model.specs.declared.numbered.Numbered.{Numbered}
use Rattle.aero_model.specs.declared.numbered.What.{What}
use Rattle.aero_model.specs.declared.numbered.What.TheVariants.{Read, Write, Acquire, Release, Fork, Join, Begin, End, Exempt}
use Rattle.aero_model.specs.Blocks.{closes}
use Rattle.aero_model.proofs.Elements.{none_in, here, there, first_or_rest}
use Rattle.aero_model.proofs.Telling.{event_at}
use Rattle.aero_engine.specs.declared.slot.Slot.{Slot}
use Rattle.aero_engine.specs.declared.slot.Slot.TheVariants.{LastWrite, LastRelease}
use Rattle.aero_engine.specs.Slots.{is_read_of, of_slot, last_of, last_event}
use Rattle.aero_engine.specs.Takes.{takes_only_own, HasActed, IfForeign, nobodys, its_own, foreign, AreReaders, Takes, plain, read, write, acquire, join, idle_join}
use Rattle.aero_engine.specs.Clocks.{Clock, greatest, new_clocks, end_clocks, Clocked, start, event, end}
use Rattle.aero_engine.proofs.LastEvents.{is_last, last_covers}
use Rattle.aero_engine.proofs.ThreadSlots.{is_of}

module _ (trace : List Numbered) (n : ℕ) where
  if_foreign : (t : ℕ) (s : Slot) → (ss : List Slot) × IfForeign trace n t s ss
  if_foreign t s = go (last_event trace n s) refl
    where
      go : (o : Option ℕ) → last_event trace n s ≡ o → (ss : List Slot) × IfForeign trace n t s ss
      go None last = ([], nobodys last)
      go (Some q) last =
          let r = is_last (of_slot s) trace n q last in
          ⊎_elim
          (λ h. ([], its_own q r.event last r.event_at h))
          (λ h. (s ∷ [], foreign q r.event last r.event_at h))
          (cases_eq r.event.thread t)

  has_acted : (t : ℕ) → HasActed trace n t ⊎ ¬ HasActed trace n t
  has_acted t = go (last_of (is_of t) trace n) refl
    where
      go : (o : Option ℕ) → last_of (is_of t) trace n ≡ o → HasActed trace n t ⊎ ¬ HasActed trace n t
      go None last = inr (λ a. let c = last_covers (is_of t) trace n a.place a.event a.event_at (eq-eqb a.event.thread t a.thread) a.below in let some = c.1 in cc)
      go (Some q) last =
          let r = is_last (is_of t) trace n q last in
          inl (record { place = q; below = r.below; event = r.event; event_at = r.event_at; thread = eqb-true r.event.thread t r.passed })

-- the threads but t that have read the variable
readers : (trace : List Numbered) (t x n : ℕ) → (us : List ℕ) × AreReaders trace n t x us
readers trace t x zero = ([], record { all = λ q f l. absurd (omega arith); apart = none_in })
readers trace t x (suc n) = go (slice_get trace n) refl (readers trace t x n)
  where
    -- an event that adds no reader
    same : (us : List ℕ) → AreReaders trace n t x us → ((f : Numbered) → slice_get trace n ≡ Some f → f.what ≡ Read x → f.thread ≢ t → Contains us f.thread) → (us : List ℕ) × AreReaders trace (suc n) t x us
    same us old at_end =
        (us, record { all = λ q f l at h other. ⊎_elim (λ k. at_end f (ap (slice_get trace) (sym k) ∙ at) h other) (λ k. old.all q f (omega arith) at h other) (cases_eq q n); apart = old.apart })

    one_more : (us : List ℕ) (f : Numbered) → AreReaders trace n t x us → slice_get trace n ≡ Some f → f.thread ≢ t → (us : List ℕ) × AreReaders trace (suc n) t x us
    one_more us f old at other = (
      f.thread ∷ us,
      record {
        all = λ q g l at' h apart. ⊎_elim
            (λ k. let e = same_Some f g (sym at ∙ ap (slice_get trace) (sym k) ∙ at') in subst (λ (a : Numbered). Contains (f.thread ∷ us) a.thread) e (here us))
            (λ k. there f.thread us (old.all q g (omega arith) at' h apart))
            (cases_eq q n);
        apart = λ a. ⊎_elim (λ k. other (sym k)) (λ b. old.apart b) (first_or_rest f.thread us a);
      },
    )

    go : (o : Option Numbered) → slice_get trace n ≡ o → (us : List ℕ) × AreReaders trace n t x us → (us : List ℕ) × AreReaders trace (suc n) t x us
    go None at (us, old) = same us old (λ f at'. absurd (let e = sym at ∙ at' in cc))
    go (Some f) at (us, old) = ⊎_elim reads reads_not (cases_Bool (is_read_of x f.what))
      where
        reads : is_read_of x f.what ≡ true → (us : List ℕ) × AreReaders trace (suc n) t x us
        reads h = ⊎_elim (λ k. same us old (λ g at' _ other. absurd (other (ap (λ (a : Numbered). a.thread) (same_Some g f (sym at' ∙ at)) ∙ k)))) (λ k. one_more us f old at k) (cases_eq f.thread t)

        reads_not : is_read_of x f.what ≡ false → (us : List ℕ) × AreReaders trace (suc n) t x us
        reads_not h = same us old (λ g at' w _. absurd (both_ways _ h (ap (λ (a : Numbered). is_read_of x a.what) (same_Some f g (sym at ∙ at')) ∙ ap (is_read_of x) w ∙ eq-eqb x x refl)))

pub takes_some : (trace : List Numbered) (n : ℕ) (e : Numbered) → (ss : List Slot) × Takes trace n e ss
takes_some trace n e = go e.what refl
  where
    go : (w : What) → e.what ≡ w → (ss : List Slot) × Takes trace n e ss
    go (Read x) h = let f = if_foreign trace n e.thread (LastWrite x) in (_, read x f.0 h f.1)
    go (Write x) h = let f = if_foreign trace n e.thread (LastWrite x) in let r = readers trace e.thread x n in (_, write x f.0 r.0 h f.1 r.1)
    go (Acquire l) h = let f = if_foreign trace n e.thread (LastRelease l) in (_, acquire l f.0 h f.1)
    go (Join u) h = ⊎_elim (λ a. (_, join u h a)) (λ a. (_, idle_join u h a)) (has_acted trace n u)
    go (Release l) h = (_, plain (ap takes_only_own h))
    go (Fork u) h = (_, plain (ap takes_only_own h))
    go (Begin label) h = (_, plain (ap takes_only_own h))
    go End h = (_, plain (ap takes_only_own h))
    go Exempt h = (_, plain (ap takes_only_own h))

pub clocks_of_front : (trace : List Numbered) (n : ℕ) → n ≤ length trace → (clocks : Slot → Clock) × Clocked trace n clocks
clocks_of_front trace zero le = (λ s u. 0, start)
clocks_of_front trace (suc n) le = go (event_at trace n (omega arith)) (clocks_of_front trace n (omega arith))
  where
    go : (e : Numbered) × (slice_get trace n ≡ Some e) → (clocks : Slot → Clock) × Clocked trace n clocks → (clocks : Slot → Clock) × Clocked trace (suc n) clocks
    go (e, at) (clocks, c) =
        ⊎_elim
        (λ closing. (end_clocks trace n e.thread clocks, end n e clocks c at closing))
        (λ no_end. let t = takes_some trace n e in (new_clocks trace n e clocks (greatest clocks t.0), event n e t.0 clocks c at no_end t.1))
        (cases_Bool (closes trace e.thread n))
