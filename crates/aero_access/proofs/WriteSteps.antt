-- A write, which takes the clocks of the last write and of all other readers.
use Rattle.std.proofs.Common.{◌≡◌, ◌≢◌, ⊎_elim, ℕ, zero, suc, ◌<◌, ◌≤◌, List, [], ◌∷◌, ◌++◌, length, max, Option, Some, None, refl, sym, ap, ◌∙◌, subst, le_refl, arith, map}
use Rattle.std.specs.Prelude.{◌==◌, Bool, true, false, if◌then◌else◌, slice_get, slice_set, is_some, find, Contains}
use Rattle.std.proofs.lemmas.Bool.{cases_Bool, both_ways, eqb-true, eq-eqb, ne_eqb, cond-true, cond-false}
use Rattle.std.proofs.lemmas.List.Elements.{Contains-append_left, Contains-append_right, Contains-append_cases}
use Rattle.std.proofs.lemmas.Option.{same_Some}
use Rattle.aero_clock.specs.Numbers.{number_at}
use Rattle.aero_model.specs.declared.numbered.Numbered.{Numbered}
use Rattle.aero_model.specs.declared.numbered.What.TheVariants.{Read, Write}
use Rattle.aero_model.specs.Shape.{IsWellFormed}
use Rattle.aero_model.proofs.Elements.{none_in, here, there, first_or_rest, Contains-map, Contains-map_from}
use Rattle.aero_model.proofs.Stability.{Agree, agree_front}
use Rattle.aero_engine.specs.declared.slot.Slot.{Slot}
use Rattle.aero_engine.specs.declared.slot.Slot.TheVariants.{OfThread, LastWrite, LastRead}
use Rattle.aero_engine.specs.Slots.{of_slot}
use Rattle.aero_engine.specs.Takes.{Takes, write, AreReaders}
use Rattle.aero_engine.specs.Clocks.{greatest}
use Rattle.aero_engine.specs.Judgement.{IsTold}
use Rattle.aero_engine.specs.Events.{actor_at, thread_of, event}
use Rattle.aero_engine.proofs.LastEvents.{is_last, to_read, last_covers}
use Rattle.aero_engine.proofs.LongerTraces.{last_event_same, no_end, no_begin}
use Rattle.aero_access.specs.declared.kept.Kept.{Kept}
use Rattle.aero_access.specs.declared.readers.Readers.{Readers}
use Rattle.aero_access.specs.declared.thread.Thread.{Thread}
use Rattle.aero_access.specs.declared.table.Table.{Table}
use Rattle.aero_access.specs.LastClocks.{kept_clock, kept_thread, greatest_but, is_by, AreApart}
use Rattle.aero_access.specs.Threads.{number_in, thread_clock, thread_begin, IsClosedBy, HasSameBlock, TakesClock, ClosesOne, ClosesNone}
use Rattle.aero_access.specs.Table.{readers_in}
use Rattle.aero_access.specs.TableWords.{kept_of, readers_of}
use Rattle.aero_access.specs.States.{State, IsStateOf}
use Rattle.aero_access.specs.StateWords.{state_in, acting, Moves, ClosesLast, last_but, KeepsClock}
use Rattle.aero_access.proofs.KeptLists.{find_kept, find_by}
use Rattle.aero_access.proofs.StateSteps.{closing_told, none_judged, stands_after}
use Rattle.aero_access.proofs.OwnSteps.{same_blocks_set, own_step, foreign_slot, if_foreign, greatest-foreign, among_foreign, closed_from, closed_to}
use Rattle.aero_access.proofs.Events.{own_clock, kept_clocks, kept_actors, of_write}

-- the threads of some that are kept, but for t
abbrev pub threads_but : ℕ → List Kept → List ℕ
threads_but t [] = []
threads_but t (k ∷ ks) = if k.thread == t then threads_but t ks else k.thread ∷ threads_but t ks

not_among : (t : ℕ) (ks : List Kept) → Contains (threads_but t ks) t → ⊥
not_among t [] m = none_in m
not_among t (k ∷ ks) m = go (k.thread == t) refl m (not_among t ks)
  where
    go : (b : Bool) → (k.thread == t) ≡ b → Contains (if b then threads_but t ks else k.thread ∷ threads_but t ks) t → (Contains (threads_but t ks) t → ⊥) → ⊥
    go true e m rest = rest m
    go false e m rest = ⊎_elim (λ h. both_ways (k.thread == t) e (eq-eqb k.thread t (sym h))) rest (first_or_rest k.thread (threads_but t ks) m)

among_threads : (t : ℕ) (ks : List Kept) (i : ℕ) (k : Kept) → slice_get ks i ≡ Some k → k.thread ≢ t → Contains (threads_but t ks) k.thread
among_threads t [] i k at ne = cc
among_threads t (x ∷ ks) i k at ne = go i at (x.thread == t) refl (λ j h. among_threads t ks j k h ne)
  where
    go : (i : ℕ) → slice_get (x ∷ ks) i ≡ Some k → (b : Bool) → (x.thread == t) ≡ b → ((j : ℕ) → slice_get ks j ≡ Some k → Contains (threads_but t ks) k.thread) → Contains (if b then threads_but t ks else x.thread ∷ threads_but t ks) k.thread
    go zero at true e rest = absurd (ne (ap (λ (a : Kept). a.thread) (sym (same_Some x k at)) ∙ eqb-true x.thread t e))
    go zero at false e rest = subst (λ v. Contains (x.thread ∷ threads_but t ks) v) (ap (λ (a : Kept). a.thread) (same_Some x k at)) (here (threads_but t ks))
    go (suc i) at true e rest = rest i at
    go (suc i) at false e rest = there x.thread (threads_but t ks) (rest i at)

-- each of them is of one that is kept
record OneOf (t : ℕ) (ks : List Kept) (v : ℕ) : Type 0 where
  place : ℕ
  one : Kept
  one_at : slice_get ks place ≡ Some one
  by : one.thread ≡ v
  other : v ≢ t

one_more : (t v : ℕ) (k : Kept) (ks : List Kept) → OneOf t ks v → OneOf t (k ∷ ks) v
one_more t v k ks o = record { place = suc o.place; one = o.one; one_at = o.one_at; by = o.by; other = o.other }

one_of : (t : ℕ) (ks : List Kept) (v : ℕ) → Contains (threads_but t ks) v → OneOf t ks v
one_of t [] v m = absurd (none_in m)
one_of t (k ∷ ks) v m = go (k.thread == t) refl m (one_of t ks v)
  where
    go : (b : Bool) → (k.thread == t) ≡ b → Contains (if b then threads_but t ks else k.thread ∷ threads_but t ks) v → (Contains (threads_but t ks) v → OneOf t ks v) → OneOf t (k ∷ ks) v
    go true e m rest = one_more t v k ks (rest m)
    go false e m rest =
        ⊎_elim
        (λ h. record { place = 0; one = k; one_at = refl; by = sym h; other = λ same. both_ways (k.thread == t) e (eq-eqb k.thread t (sym h ∙ same)) })
        (λ a. one_more t v k ks (rest a))
        (first_or_rest k.thread (threads_but t ks) m)

-- the greatest of their clocks
greatest-readers : (clocks : Slot → ℕ → ℕ) (t x : ℕ) (u : ℕ) (ks : List Kept) → ((i : ℕ) (k : Kept) → slice_get ks i ≡ Some k → clocks (LastRead x k.thread) u ≡ number_at k.clock u) → greatest clocks (map (LastRead x) (threads_but t ks)) u ≡ greatest_but t ks u
greatest-readers clocks t x u [] h = refl
greatest-readers clocks t x u (k ∷ ks) h = go (k.thread == t) (greatest-readers clocks t x u ks (λ i j at. h (suc i) j at))
  where
    go : (b : Bool) → greatest clocks (map (LastRead x) (threads_but t ks)) u ≡ greatest_but t ks u → greatest clocks (map (LastRead x) (if b then threads_but t ks else k.thread ∷ threads_but t ks)) u ≡ max (if b then 0 else number_at k.clock u) (greatest_but t ks u)
    go true rest = omega (arith, rest)
    go false rest = let first : clocks (LastRead x k.thread) u ≡ number_at k.clock u = h 0 k refl in omega (arith, rest, first)

greatest-append : (clocks : Slot → ℕ → ℕ) (ss rs : List Slot) (u : ℕ) → greatest clocks (ss ++ rs) u ≡ max (greatest clocks ss u) (greatest clocks rs u)
greatest-append clocks [] rs u = omega arith
greatest-append clocks (s ∷ ss) rs u = omega (arith, greatest-append clocks ss rs u)

readers_apart : (o : Option Readers) → AreApart (readers_in o)
readers_apart None = λ i j t a b. cc
readers_apart (Some r) = r.apart

found_among : (ks : List Kept) (v : ℕ) (k : Kept) → find (is_by v) ks ≡ Some k → (i : ℕ) × (slice_get ks i ≡ Some k)
found_among [] v k h = cc
found_among (x ∷ ks) v k h =
    ⊎_elim
    (λ e. (0, sym (cond-true (x.thread == v) _ _ e) ∙ h))
    (λ e. let r = found_among ks v k (sym (cond-false (x.thread == v) _ _ e) ∙ h) in (suc r.0, r.1))
    (cases_Bool (x.thread == v))

module _ (threads : List Thread) (table : Table) (t : ℕ) (th : Thread) (at : slice_get threads t ≡ Some th) (x : ℕ) where
  abbrev w : State
  w = state_in threads table

  abbrev ks : List Kept
  ks = readers_of table x

  -- what is kept of a reader has its clock
  clock_of_reader : (i : ℕ) (k : Kept) → slice_get ks i ≡ Some k → (u : ℕ) → w.clock (LastRead x k.thread) u ≡ number_at k.clock u
  clock_of_reader i k at_k u = ap (λ o. kept_clock o u) (find_kept ks i k.thread k (readers_apart (slice_get table.entries.reads.items x)) at_k refl)

  abbrev slots : List Slot
  slots = foreign_slot t (LastWrite x) (w.actor (LastWrite x)) ++ map (LastRead x) (threads_but t ks)

  -- all readers are there
  are_readers : (h : List Numbered) → IsStateOf w h → AreReaders (h ++ event t (Write x) ∷ []) (length h) t x (threads_but t ks)
  are_readers h stands = record { all = all; apart = not_among t ks }
    where
      more : List Numbered
      more = h ++ event t (Write x) ∷ []

      agree : Agree (length h) h more
      agree = agree_front (length h) h (event t (Write x) ∷ []) (le_refl (length h))

      all : (q : ℕ) (f : Numbered) → q < length h → slice_get more q ≡ Some f → f.what ≡ Read x → f.thread ≢ t → Contains (threads_but t ks) f.thread
      all q f below at_f what other =
          let c = last_covers (of_slot (LastRead x f.thread)) more (length h) q f at_f (to_read x f what) below in
          let l = is_last (of_slot (LastRead x f.thread)) more (length h) c.0 c.1 in
          let is : kept_thread (find (is_by f.thread) ks) ≡ Some l.event.thread =
          stands.actor (LastRead x f.thread) refl ∙ ap (actor_at h) (last_event_same (length h) h more agree (LastRead x f.thread) ∙ c.1) ∙ ap thread_of (agree.same c.0 l.below ∙ l.event_at)
          in
          go (find (is_by f.thread) ks) refl l.event.thread is
        where
          go : (o : Option Kept) → find (is_by f.thread) ks ≡ o → (v : ℕ) → kept_thread o ≡ Some v → Contains (threads_but t ks) f.thread
          go None e v is = cc
          go (Some k) e v is =
              let place = found_among ks f.thread k e in
              let by = find_by ks f.thread k e in
              subst (λ m. Contains (threads_but t ks) m) by (among_threads t ks place.0 k place.1 (λ same. other (sym by ∙ same)))

  taken_slots : (h : List Numbered) → IsStateOf w h → Takes (h ++ event t (Write x) ∷ []) (length h) (event t (Write x)) (OfThread t ∷ slots)
  taken_slots h stands = write x _ (threads_but t ks) refl (if_foreign w h (event t (Write x)) stands t (LastWrite x) refl) (are_readers h stands)

  inside_is : w.in_block t ≡ is_some th.begin
  inside_is = ap (λ o. is_some (thread_begin o)) at

  begin_is : (u : ℕ) → w.begin_clock t u ≡ number_in th.begin u
  begin_is u = ap (λ o. number_in (thread_begin o) u) at

  -- where the last write closes a cycle
  pub write_closes : (after : State) → ClosesLast th.begin t (kept_of table (LastWrite x)) → Moves w after (event t (Write x)) true
  write_closes after closes = record { told = λ h stands ok is. go h stands ok (kept_of table (LastWrite x)) refl closes; stands = λ h stands ok is. cc }
    where
      go : (h : List Numbered) → IsStateOf w h → IsWellFormed (h ++ event t (Write x) ∷ []) → (o : Option Kept) → kept_of table (LastWrite x) ≡ o → ClosesLast th.begin t o → IsTold (h ++ event t (Write x) ∷ []) (length h) (Some t)
      go h stands ok None e c = absurd c
      go h stands ok (Some k) e c =
          let closed = closed_to th.begin (number_at k.clock) c.1 in
          closing_told w h (event t (Write x)) ok stands _ (taken_slots h stands) (no_end h t (Write x) refl) (LastWrite x)
          (there (OfThread t) slots (Contains-append_left (foreign_slot t (LastWrite x) (w.actor (LastWrite x))) (map (LastRead x) (threads_but t ks)) (LastWrite x) (among k e c.0))) (λ e. cc) (inside_is ∙ closed.0)
          (λ u. omega (arith, begin_is u, closed.1 u, ap (λ o. kept_clock o u) e))
        where
          among : (k : Kept) → kept_of table (LastWrite x) ≡ Some k → k.thread ≢ t → Contains (foreign_slot t (LastWrite x) (w.actor (LastWrite x))) (LastWrite x)
          among k e ne = subst (λ ss. Contains ss (LastWrite x)) (sym (ap (λ o. foreign_slot t (LastWrite x) (kept_thread o)) e ∙ cond-false (k.thread == t) _ _ (ne_eqb k.thread t ne))) (here [])

  -- where a reader's clock does
  pub reader_closes : (after : State) → ClosesOne th.begin t ks → Moves w after (event t (Write x)) true
  reader_closes after c = record {
    told = λ h stands ok is.
        let closed = closed_to th.begin (number_at c.one.clock) c.closed in
        closing_told w h (event t (Write x)) ok stands _ (taken_slots h stands) (no_end h t (Write x) refl) (LastRead x c.one.thread)
        (there (OfThread t) slots (Contains-append_right (foreign_slot t (LastWrite x) (w.actor (LastWrite x))) (map (LastRead x) (threads_but t ks)) (LastRead x c.one.thread) (Contains-map (LastRead x) (threads_but t ks) c.one.thread (among_threads t ks c.place c.one c.at c.other)))) (λ e. cc) (inside_is ∙ closed.0)
        (λ u. omega (arith, begin_is u, closed.1 u, clock_of_reader c.place c.one c.at u));
    stands = λ h stands ok is. cc;
  }

  -- where none does, and the thread has taken them all
  pub write_moves : (one two : Thread) (new : Table)
      → ¬ ClosesLast th.begin t (kept_of table (LastWrite x))
      → TakesClock th one (last_but t (kept_of table (LastWrite x)))
      → HasSameBlock th one
      → ClosesNone one.begin t ks
      → TakesClock one two (greatest_but t ks)
      → HasSameBlock th two
      → KeepsClock table new (LastWrite x) t (number_at two.clock)
      → Moves w (state_in (slice_set threads t two) new) (event t (Write x)) false
  write_moves one two new passes takes_last same_one none_closes takes_reads same keeps = record {
    told = λ h stands ok is. cc;
    stands = λ h stands ok is.
        stands_after w h (event t (Write x)) ok stands _ (taken_slots h stands) (no_end h t (Write x) refl) (acting (state_in (slice_set threads t two) new) t) false (no_begin h t (Write x) refl) (number_at two.clock)
        taken
        (own_step threads (slice_set threads t two) table new t (Write x) (number_at two.clock)
        (own_clock threads t th two at (Write x) (λ v. refl))
        (same_blocks_set threads t th two at same)
        (kept_clocks table new (LastWrite x) t (number_at two.clock) keeps (Write x) (of_write t x))
        (kept_actors table new (LastWrite x) t (number_at two.clock) keeps (Write x) (of_write t x)))
        (none_judged w h (event t (Write x)) ok stands _ (taken_slots h stands) (no_end h t (Write x) refl) none);
  }
    where
      taken : (u : ℕ) → number_at two.clock u ≡ greatest w.clock (OfThread t ∷ slots) u
      taken u =
          omega (
            arith,
            takes_reads.clock u,
            takes_last.clock u,
            ap (λ o. thread_clock o u) at,
            greatest-append w.clock (foreign_slot t (LastWrite x) (w.actor (LastWrite x))) (map (LastRead x) (threads_but t ks)) u,
            greatest-foreign w.clock t (LastWrite x) (kept_of table (LastWrite x)) u refl,
            greatest-readers w.clock t x u ks (λ i k at_k. clock_of_reader i k at_k u),
          )

      of_last : (s : Slot) → w.in_block t ≡ true → ((u : ℕ) → w.begin_clock t u ≤ w.clock s u) → ((v : ℕ) × (w.actor (LastWrite x) ≡ Some v) × (v ≢ t) × (s ≡ LastWrite x)) → (o : Option Kept) → kept_of table (LastWrite x) ≡ o → ⊥
      of_last s inside at_most m None e = let z : None ≡ Some m.0 = sym (ap kept_thread e) ∙ m.1 in cc
      of_last s inside at_most m (Some k) e =
          passes (subst (ClosesLast th.begin t) (sym e) (
            λ eq. m.2 (same_Some m.0 k.thread (sym m.1 ∙ ap kept_thread e) ∙ eq),
            closed_from th.begin (number_at k.clock) (sym inside_is ∙ inside)
                (λ u. omega (arith, begin_is u, at_most u, ap (λ r. w.clock r u) m.3, ap (λ o. kept_clock o u) e)),
          ))

      of_reader : (s : Slot) → w.in_block t ≡ true → ((u : ℕ) → w.begin_clock t u ≤ w.clock s u) → (v : ℕ) × Contains (threads_but t ks) v × (LastRead x v ≡ s) → ⊥
      of_reader s inside at_most m =
          let o = one_of t ks m.0 m.1 in
          none_closes.none o.place o.one o.one_at (λ e. o.other (sym o.by ∙ e))
          (subst (λ b. IsClosedBy b (number_at o.one.clock)) (sym same_one.begin)
          (closed_from th.begin (number_at o.one.clock) (sym inside_is ∙ inside)
          (λ u. omega (arith, begin_is u, at_most u, ap (λ r. w.clock r u) m.2, ap (λ v. w.clock (LastRead x v) u) o.by, clock_of_reader o.place o.one o.one_at u))))

      none : (s : Slot) → Contains (OfThread t ∷ slots) s → s ≢ OfThread t → w.in_block t ≡ true → ((u : ℕ) → w.begin_clock t u ≤ w.clock s u) → ⊥
      none s among other inside at_most =
          ⊎_elim other
          (λ m.
          ⊎_elim
          (λ f. of_last s inside at_most (among_foreign t (LastWrite x) s (w.actor (LastWrite x)) f) (kept_of table (LastWrite x)) refl)
          (λ r. of_reader s inside at_most (Contains-map_from (LastRead x) (threads_but t ks) s r))
          (Contains-append_cases (foreign_slot t (LastWrite x) (w.actor (LastWrite x))) (map (LastRead x) (threads_but t ks)) s m))
          (first_or_rest (OfThread t) slots among)
