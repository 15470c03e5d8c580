-- Steps of threads and a table, by what the code does to one thread and one slot.
use Rattle.std.proofs.Common.{◌≡◌, ◌≢◌, ⊎_elim, ℕ, ◌≤◌, List, [], ◌∷◌, ◌++◌, length, Option, Some, None, refl, sym, ap, ◌∙◌, subst, le_refl, arith}
use Rattle.std.specs.Prelude.{◌==◌, ◌&&◌, Bool, true, false, if◌then◌else◌, slice_get, slice_set, is_some, Contains}
use Rattle.std.proofs.lemmas.Bool.{both_ways, eqb-true, eq-eqb, ne_eqb, cond-false, and_right}
use Rattle.std.proofs.lemmas.Option.{same_Some}
use Rattle.aero_clock.specs.declared.clock.Clock.{Clock}
use Rattle.aero_clock.specs.Numbers.{number_at}
use Rattle.aero_model.specs.declared.numbered.Numbered.{Numbered}
use Rattle.aero_model.specs.declared.numbered.What.{What}
use Rattle.aero_model.specs.Blocks.{is_begin, is_end, closes}
use Rattle.aero_model.specs.Shape.{IsWellFormed}
use Rattle.aero_model.proofs.Elements.{none_in, here, there, first_or_rest}
use Rattle.aero_model.proofs.Stability.{Agree, agree_front}
use Rattle.aero_engine.specs.declared.slot.Slot.{Slot}
use Rattle.aero_engine.specs.declared.slot.Slot.TheVariants.{OfThread, LastWrite, LastRead, LastRelease}
use Rattle.aero_engine.specs.Slots.{of_slot, last_event}
use Rattle.aero_engine.specs.Takes.{Takes, IfForeign, nobodys, its_own, foreign}
use Rattle.aero_engine.specs.Clocks.{greatest}
use Rattle.aero_engine.specs.Judgement.{IsTold}
use Rattle.aero_engine.specs.Events.{actor_at, thread_of, event}
use Rattle.aero_engine.proofs.LastEvents.{is_last}
use Rattle.aero_engine.proofs.LongerTraces.{last_event_same, no_end, no_begin}
use Rattle.aero_engine.proofs.Written.{unwritten}
use Rattle.aero_access.specs.declared.kept.Kept.{Kept}
use Rattle.aero_access.specs.declared.thread.Thread.{Thread}
use Rattle.aero_access.specs.declared.table.Table.{Table}
use Rattle.aero_access.specs.LastClocks.{kept_clock, kept_thread, is_kept}
use Rattle.aero_access.specs.Threads.{number_in, thread_clock, thread_begin, thread_begins, thread_acted, IsClosedBy, HasSameBlock, TakesClock}
use Rattle.aero_access.specs.TableWords.{kept_of}
use Rattle.aero_access.specs.States.{State, IsStateOf}
use Rattle.aero_access.specs.StateWords.{clock_in, state_in, acting, Moves, HaveSameBlocks, ClosesLast, last_but}
use Rattle.aero_access.proofs.StateSteps.{IsStep, closing_told, none_judged, stands_after}

-- one thread is written
module _ (threads : List Thread) (t : ℕ) (th new : Thread) (at : slice_get threads t ≡ Some th) where
  -- where nothing of the clock that it takes is new, its own stays
  pub taken_nothing : (K : ℕ → ℕ) → TakesClock th new K → ((u : ℕ) → K u ≤ thread_clock (slice_get threads t) u) → (u : ℕ) → thread_clock (slice_get (slice_set threads t new) t) u ≡ thread_clock (slice_get threads t) u
  taken_nothing K takes le u =
      let own : thread_clock (slice_get threads t) u ≡ number_at th.clock u = ap (λ o. thread_clock o u) at in
      unwritten threads t th new at (λ o. thread_clock o u) t (takes.clock u ∙ omega (arith, le u, own))

  pub same_blocks_set : HasSameBlock th new → HaveSameBlocks threads (slice_set threads t new)
  same_blocks_set same = record {
    begin = λ u. unwritten threads t th new at thread_begin u same.begin;
    begins = λ u. unwritten threads t th new at thread_begins u same.begins;
    acted = λ u. unwritten threads t th new at thread_acted u same.acted;
  }

-- an event that begins no block gives its thread the clock K, and a slot at most
pub own_step : (threads after : List Thread) (table new : Table) (t : ℕ) (what : What) (K : ℕ → ℕ)
    → ((v u : ℕ) → thread_clock (slice_get after v) u ≡ (if of_slot (OfThread v) (event t what) then K u else thread_clock (slice_get threads v) u))
    → HaveSameBlocks threads after
    → ((s : Slot) (u : ℕ) → is_kept s ≡ true → kept_clock (kept_of new s) u ≡ (if of_slot s (event t what) then K u else kept_clock (kept_of table s) u))
    → ((s : Slot) → is_kept s ≡ true → kept_thread (kept_of new s) ≡ (if of_slot s (event t what) then Some t else kept_thread (kept_of table s)))
    → IsStep (state_in threads table) (acting (state_in after new) t) (event t what) K false
own_step threads after table new t what K clock blocks kept actor = record {
  clock = clocks;
  actor = actor;
  acted = λ u. ap (λ b. if t == u then true else b) (blocks.acted u);
  begins = λ u. blocks.begins u ∙ sym (cond-false ((t == u) && false) _ _ (and_right (t == u) false refl));
  in_block = λ u. ap is_some (blocks.begin u) ∙ sym (cond-false ((t == u) && false) _ _ (and_right (t == u) false refl));
  begin_clock = λ u v. ap (λ b. number_in b v) (blocks.begin u) ∙ sym (cond-false ((t == u) && false) _ _ (and_right (t == u) false refl));
}
  where
    clocks : (s : Slot) (u : ℕ) → clock_in after new s u ≡ (if of_slot s (event t what) then K u else clock_in threads table s u)
    clocks (OfThread v) u = clock v u
    clocks (LastWrite x) u = kept (LastWrite x) u refl
    clocks (LastRead x v) u = kept (LastRead x v) u refl
    clocks (LastRelease l) u = kept (LastRelease l) u refl

-- open blocks
pub closed_from : (o : Option Clock) (K : ℕ → ℕ) → is_some o ≡ true → ((u : ℕ) → number_in o u ≤ K u) → IsClosedBy o K
closed_from None K inside le = cc
closed_from (Some b) K inside le = le

pub closed_to : (o : Option Clock) (K : ℕ → ℕ) → IsClosedBy o K → (is_some o ≡ true) × ((u : ℕ) → number_in o u ≤ K u)
closed_to None K h = absurd h
closed_to (Some b) K h = (refl, h)

-- the slot, where its last event is by another thread
abbrev pub foreign_slot : ℕ → Slot → Option ℕ → List Slot
foreign_slot t s None = []
foreign_slot t s (Some v) = if v == t then [] else s ∷ []

pub if_foreign : (w : State) (h : List Numbered) (e : Numbered) → IsStateOf w h → (t : ℕ) (s : Slot) → is_kept s ≡ true → IfForeign (h ++ e ∷ []) (length h) t s (foreign_slot t s (w.actor s))
if_foreign w h e stands t s kept = go (last_event more n s) refl (w.actor s) (stands.actor s kept ∙ ap (actor_at h) (last_event_same n h more agree s))
  where
    more : List Numbered
    more = h ++ e ∷ []

    n : ℕ
    n = length h

    agree : Agree n h more
    agree = agree_front n h (e ∷ []) (le_refl n)

    found : (q : ℕ) → last_event more n s ≡ Some q → (f : Numbered) → slice_get more q ≡ Some f → (v : ℕ) → v ≡ f.thread → (b : Bool) → (v == t) ≡ b → IfForeign more n t s (if b then [] else s ∷ [])
    found q last f at v same true h = its_own q f last at (sym same ∙ eqb-true v t h)
    found q last f at v same false h = foreign q f last at (λ e. both_ways (v == t) h (eq-eqb v t (same ∙ e)))

    go : (o : Option ℕ) → last_event more n s ≡ o → (a : Option ℕ) → a ≡ actor_at h o → IfForeign more n t s (foreign_slot t s a)
    go None last None e = nobodys last
    go None last (Some v) e = cc
    go (Some q) last None e =
        let l = is_last (of_slot s) more n q last in
        let z : None ≡ Some l.event.thread = e ∙ ap thread_of (agree.same q l.below ∙ l.event_at) in
        cc
    go (Some q) last (Some v) e =
        let l = is_last (of_slot s) more n q last in
        found q last l.event l.event_at v (same_Some v l.event.thread (e ∙ ap thread_of (agree.same q l.below ∙ l.event_at))) (v == t) refl

-- what its clock adds
pub greatest-foreign : (clocks : Slot → ℕ → ℕ) (t : ℕ) (s : Slot) (kept : Option Kept) (u : ℕ) → clocks s u ≡ kept_clock kept u → greatest clocks (foreign_slot t s (kept_thread kept)) u ≡ last_but t kept u
greatest-foreign clocks t s None u h = refl
greatest-foreign clocks t s (Some k) u h = go (k.thread == t)
  where
    go : (b : Bool) → greatest clocks (if b then [] else s ∷ []) u ≡ (if b then 0 else number_at k.clock u)
    go true = refl
    go false = omega (arith, h)

pub among_foreign : (t : ℕ) (s r : Slot) (a : Option ℕ) → Contains (foreign_slot t s a) r → (v : ℕ) × (a ≡ Some v) × (v ≢ t) × (r ≡ s)
among_foreign t s r None m = absurd (none_in m)
among_foreign t s r (Some v) m = go (v == t) refl m
  where
    go : (b : Bool) → (v == t) ≡ b → Contains (if b then [] else s ∷ []) r → (u : ℕ) × (Some v ≡ Some u) × (u ≢ t) × (r ≡ s)
    go true e m = absurd (none_in m)
    go false e m = (v, refl, λ h. both_ways (v == t) e (eq-eqb v t h), ⊎_elim (λ i. i) (λ a. absurd (none_in a)) (first_or_rest s [] m))

-- an event that takes the clock of one slot beside its thread's own
module _ (threads : List Thread) (table : Table) (t : ℕ) (th : Thread) (at : slice_get threads t ≡ Some th) (what : What) (slot : Slot) (kept : is_kept slot ≡ true) (no_ends : is_end what ≡ false) (no_begins : is_begin what ≡ false) where
  abbrev w : State
  w = state_in threads table

  -- which slots it takes, by its rule
  module _ (takes : (trace : List Numbered) (n : ℕ) (ss : List Slot) → IfForeign trace n t slot ss → Takes trace n (event t what) (OfThread t ∷ ss)) where
    taken_slots : (h : List Numbered) → IsStateOf w h → Takes (h ++ event t what ∷ []) (length h) (event t what) (OfThread t ∷ foreign_slot t slot (w.actor slot))
    taken_slots h stands = takes (h ++ event t what ∷ []) (length h) (foreign_slot t slot (w.actor slot)) (if_foreign w h (event t what) stands t slot kept)

    clock_is : (u : ℕ) → w.clock slot u ≡ kept_clock (kept_of table slot) u
    clock_is u = go slot kept
      where
        go : (s : Slot) → is_kept s ≡ true → w.clock s u ≡ kept_clock (kept_of table s) u
        go (OfThread v) k = cc
        go (LastWrite x) k = refl
        go (LastRead x v) k = refl
        go (LastRelease l) k = refl

    other_slot : slot ≢ OfThread t
    other_slot e = let z = ap is_kept e in both_ways (is_kept slot) z kept

    inside_is : w.in_block t ≡ is_some th.begin
    inside_is = ap (λ o. is_some (thread_begin o)) at

    begin_is : (u : ℕ) → w.begin_clock t u ≡ number_in th.begin u
    begin_is u = ap (λ o. number_in (thread_begin o) u) at

    -- where what is kept closes a cycle
    pub last_closes : (after : State) → ClosesLast th.begin t (kept_of table slot) → Moves w after (event t what) true
    last_closes after closes = record { told = λ h stands ok is. go h stands ok (kept_of table slot) refl closes; stands = λ h stands ok is. cc }
      where
        go : (h : List Numbered) → IsStateOf w h → IsWellFormed (h ++ event t what ∷ []) → (o : Option Kept) → kept_of table slot ≡ o → ClosesLast th.begin t o → IsTold (h ++ event t what ∷ []) (length h) (Some t)
        go h stands ok None e c = absurd c
        go h stands ok (Some k) e c =
            let closed = closed_to th.begin (number_at k.clock) c.1 in
            closing_told w h (event t what) ok stands _ (taken_slots h stands) (no_end h t what no_ends) slot
            (there (OfThread t) (foreign_slot t slot (w.actor slot)) (among k e c.0)) other_slot (inside_is ∙ closed.0)
            (λ u. omega (arith, begin_is u, closed.1 u, clock_is u, ap (λ o. kept_clock o u) e))
          where
            among : (k : Kept) → kept_of table slot ≡ Some k → k.thread ≢ t → Contains (foreign_slot t slot (w.actor slot)) slot
            among k e ne = subst (λ ss. Contains ss slot) (sym (ap (λ o. foreign_slot t slot (kept_thread o)) e ∙ cond-false (k.thread == t) _ _ (ne_eqb k.thread t ne))) (here [])

    -- where it does not, and the thread has taken it
    pub last_passes : (after : State) (new : Thread) → ¬ ClosesLast th.begin t (kept_of table slot) → TakesClock th new (last_but t (kept_of table slot)) → IsStep w (acting after t) (event t what) (number_at new.clock) false → Moves w after (event t what) false
    last_passes after new passes takes_clock step = record {
      told = λ h stands ok is. cc;
      stands = λ h stands ok is.
          stands_after w h (event t what) ok stands _ (taken_slots h stands) (no_end h t what no_ends) (acting after t) false (no_begin h t what no_begins) (number_at new.clock)
          (λ u. takes_clock.clock u ∙ omega (arith, ap (λ o. thread_clock o u) at, greatest-foreign w.clock t slot (kept_of table slot) u (clock_is u)))
          step
          (none_judged w h (event t what) ok stands _ (taken_slots h stands) (no_end h t what no_ends) none);
    }
      where
        none : (s : Slot) → Contains (OfThread t ∷ foreign_slot t slot (w.actor slot)) s → s ≢ OfThread t → w.in_block t ≡ true → ((u : ℕ) → w.begin_clock t u ≤ w.clock s u) → ⊥
        none s among other inside at_most = ⊎_elim other (λ m. go (among_foreign t slot s (w.actor slot) m) (kept_of table slot) refl) (first_or_rest (OfThread t) (foreign_slot t slot (w.actor slot)) among)
          where
            go : ((v : ℕ) × (w.actor slot ≡ Some v) × (v ≢ t) × (s ≡ slot)) → (o : Option Kept) → kept_of table slot ≡ o → ⊥
            go m None e = let z : None ≡ Some m.0 = sym (ap kept_thread e) ∙ m.1 in cc
            go m (Some k) e =
                passes (subst (ClosesLast th.begin t) (sym e) (
                  λ same. m.2 (same_Some m.0 k.thread (sym m.1 ∙ ap kept_thread e) ∙ same),
                  closed_from th.begin (number_at k.clock) (sym inside_is ∙ inside)
                      (λ u. omega (arith, begin_is u, at_most u, ap (λ r. w.clock r u) m.3, clock_is u, ap (λ o. kept_clock o u) e)),
                ))
