-- What each event does to threads and a table.
use Rattle.std.proofs.Common.{◌≡◌, ◌≢◌, ◌⊎◌, inl, inr, ⊎_elim, ℕ, List, [], ◌∷◌, ◌++◌, Some, refl, sym, ap, ◌∙◌, arith}
use Rattle.std.specs.Prelude.{◌↔◌, IsTrue, ◌==◌, ◌&&◌, ◌||◌, Bool, true, false, if◌then◌else◌, slice_get, slice_set, Contains}
use Rattle.std.proofs.lemmas.Bool.{cases_eq, eq-eqb, ne_eqb, cond-true, cond-false, and_right}
use Rattle.aero_clock.specs.Numbers.{number_at}
use Rattle.aero_model.specs.declared.numbered.Numbered.{Numbered}
use Rattle.aero_model.specs.declared.numbered.What.{What}
use Rattle.aero_model.specs.declared.numbered.What.TheVariants.{Read, Write, Acquire, Release}
use Rattle.aero_model.specs.Blocks.{is_begin, is_end}
use Rattle.aero_model.specs.Shape.{is_fork_of, IsWellFormed}
use Rattle.aero_model.proofs.Elements.{none_in, first_or_rest}
use Rattle.aero_engine.specs.declared.slot.Slot.{Slot}
use Rattle.aero_engine.specs.declared.slot.Slot.TheVariants.{OfThread, LastWrite, LastRead, LastRelease}
use Rattle.aero_engine.specs.Slots.{of_slot}
use Rattle.aero_engine.specs.Takes.{takes_only_own, plain, read, acquire}
use Rattle.aero_engine.specs.Events.{event}
use Rattle.aero_engine.proofs.LongerTraces.{no_end, no_begin}
use Rattle.aero_engine.proofs.Written.{written}
use Rattle.aero_access.specs.declared.thread.Thread.{Thread}
use Rattle.aero_access.specs.declared.table.Table.{Table}
use Rattle.aero_access.specs.LastClocks.{kept_clock, kept_thread, is_kept, same_slot}
use Rattle.aero_access.specs.Threads.{thread_clock, HasSameBlock, TakesClock}
use Rattle.aero_access.specs.TableWords.{kept_of}
use Rattle.aero_access.specs.States.{State, IsStateOf}
use Rattle.aero_access.specs.StateWords.{state_in, acting, Moves, ClosesLast, last_but, KeepsClock}
use Rattle.aero_access.proofs.Outcomes.{not_true}
use Rattle.aero_access.proofs.StateSteps.{IsStep, none_judged, stands_after}
use Rattle.aero_access.proofs.OwnSteps.{same_blocks_set, own_step, last_closes, last_passes}

pub eq_swap : (a b : ℕ) → (a == b) ≡ (b == a)
eq_swap a b = ⊎_elim (λ e. eq-eqb a b e ∙ sym (eq-eqb b a (sym e))) (λ ne. ne_eqb a b ne ∙ sym (ne_eqb b a (λ e. ne (sym e)))) (cases_eq a b)

-- of threads' slots, only the actor's own, where nothing is forked
pub own_slot : (t v : ℕ) (what : What) → is_fork_of v what ≡ false → of_slot (OfThread v) (event t what) ≡ (t == v)
own_slot t v what none = go (t == v) (is_fork_of v what) none
  where
    go : (b c : Bool) → c ≡ false → (b || c) ≡ b
    go true c h = refl
    go false c h = h

-- the thread is written
pub own_clock : (threads : List Thread) (t : ℕ) (th new : Thread) → slice_get threads t ≡ Some th → (what : What) → ((v : ℕ) → is_fork_of v what ≡ false) → (v u : ℕ) → thread_clock (slice_get (slice_set threads t new) v) u ≡ (if of_slot (OfThread v) (event t what) then number_at new.clock u else thread_clock (slice_get threads v) u)
own_clock threads t th new at what none v u =
    written threads t th new at (λ o. thread_clock o u) v ∙ ap (λ b. if b then number_at new.clock u else thread_clock (slice_get threads v) u) (sym (own_slot t v what (none v)))

-- or not
pub same_clock : (threads : List Thread) (t : ℕ) (th : Thread) → slice_get threads t ≡ Some th → (what : What) → ((v : ℕ) → is_fork_of v what ≡ false) → (v u : ℕ) → thread_clock (slice_get threads v) u ≡ (if of_slot (OfThread v) (event t what) then number_at th.clock u else thread_clock (slice_get threads v) u)
same_clock threads t th at what none v u = go (cases_eq t v) ∙ ap (λ b. if b then number_at th.clock u else thread_clock (slice_get threads v) u) (sym (own_slot t v what (none v)))
  where
    go : (t ≡ v) ⊎ (t ≡ v → ⊥) → thread_clock (slice_get threads v) u ≡ (if t == v then number_at th.clock u else thread_clock (slice_get threads v) u)
    go (inl e) = ap (λ m. thread_clock (slice_get threads m) u) (sym e) ∙ ap (λ o. thread_clock o u) at ∙ sym (cond-true (t == v) _ _ (eq-eqb t v e))
    go (inr ne) = sym (cond-false (t == v) _ _ (ne_eqb t v ne))

-- the slot that is kept is the event's
module _ (table new : Table) (slot : Slot) (t : ℕ) (K : ℕ → ℕ) (keeps : KeepsClock table new slot t K) (what : What) (its : (s : Slot) → is_kept s ≡ true → of_slot s (event t what) ≡ same_slot s slot) where
  pub kept_clocks : (s : Slot) (u : ℕ) → is_kept s ≡ true → kept_clock (kept_of new s) u ≡ (if of_slot s (event t what) then K u else kept_clock (kept_of table s) u)
  kept_clocks s u k = keeps.clock s u ∙ ap (λ b. if b then K u else kept_clock (kept_of table s) u) (sym (its s k))

  pub kept_actors : (s : Slot) → is_kept s ≡ true → kept_thread (kept_of new s) ≡ (if of_slot s (event t what) then Some t else kept_thread (kept_of table s))
  kept_actors s k = keeps.actor s ∙ ap (λ b. if b then Some t else kept_thread (kept_of table s)) (sym (its s k))

-- the event is no slot's last one but its thread's
module _ (table : Table) (t : ℕ) (K : ℕ → ℕ) (what : What) (none : (s : Slot) → is_kept s ≡ true → of_slot s (event t what) ≡ false) where
  pub same_clocks : (s : Slot) (u : ℕ) → is_kept s ≡ true → kept_clock (kept_of table s) u ≡ (if of_slot s (event t what) then K u else kept_clock (kept_of table s) u)
  same_clocks s u k = sym (cond-false (of_slot s (event t what)) _ _ (none s k))

  pub same_actors : (s : Slot) → is_kept s ≡ true → kept_thread (kept_of table s) ≡ (if of_slot s (event t what) then Some t else kept_thread (kept_of table s))
  same_actors s k = sym (cond-false (of_slot s (event t what)) _ _ (none s k))

-- which slot that is
of_read : (t x : ℕ) (s : Slot) → is_kept s ≡ true → of_slot s (event t (Read x)) ≡ same_slot s (LastRead x t)
of_read t x (OfThread v) k = cc
of_read t x (LastWrite y) k = refl
of_read t x (LastRead y v) k = swapped (t == v) (y == x) ∙ ap (λ b. (y == x) && b) (eq_swap t v)
  where
    swapped : (b c : Bool) → (b && c) ≡ (c && b)
    swapped true true = refl
    swapped true false = refl
    swapped false true = refl
    swapped false false = refl
of_read t x (LastRelease l) k = refl

pub of_write : (t x : ℕ) (s : Slot) → is_kept s ≡ true → of_slot s (event t (Write x)) ≡ same_slot s (LastWrite x)
of_write t x (OfThread v) k = cc
of_write t x (LastWrite y) k = refl
of_write t x (LastRead y v) k = and_right (t == v) false refl
of_write t x (LastRelease l) k = refl

of_release : (t l : ℕ) (s : Slot) → is_kept s ≡ true → of_slot s (event t (Release l)) ≡ same_slot s (LastRelease l)
of_release t l (OfThread v) k = cc
of_release t l (LastWrite y) k = refl
of_release t l (LastRead y v) k = and_right (t == v) false refl
of_release t l (LastRelease m) k = refl

of_acquire : (t l : ℕ) (s : Slot) → is_kept s ≡ true → of_slot s (event t (Acquire l)) ≡ false
of_acquire t l (OfThread v) k = cc
of_acquire t l (LastWrite y) k = refl
of_acquire t l (LastRead y v) k = and_right (t == v) false refl
of_acquire t l (LastRelease m) k = refl

module _ (threads : List Thread) (table : Table) (t : ℕ) (th : Thread) (at : slice_get threads t ≡ Some th) where
  -- a read
  pub read_closes : (x : ℕ) (after : State) → ClosesLast th.begin t (kept_of table (LastWrite x)) → Moves (state_in threads table) after (event t (Read x)) true
  read_closes x = last_closes threads table t th at (Read x) (LastWrite x) refl refl refl (λ trace n ss f. read x ss refl f)

  pub read_moves : (x : ℕ) (taken : Thread) (new : Table) → ¬ ClosesLast th.begin t (kept_of table (LastWrite x)) → TakesClock th taken (last_but t (kept_of table (LastWrite x))) → HasSameBlock th taken → KeepsClock table new (LastRead x t) t (number_at taken.clock) → Moves (state_in threads table) (state_in (slice_set threads t taken) new) (event t (Read x)) false
  read_moves x taken new passes takes same keeps =
      last_passes threads table t th at (Read x) (LastWrite x) refl refl refl (λ trace n ss f. read x ss refl f) (state_in (slice_set threads t taken) new) taken passes takes
      (own_step threads (slice_set threads t taken) table new t (Read x) (number_at taken.clock)
      (own_clock threads t th taken at (Read x) (λ v. refl))
      (same_blocks_set threads t th taken at same)
      (kept_clocks table new (LastRead x t) t (number_at taken.clock) keeps (Read x) (of_read t x))
      (kept_actors table new (LastRead x t) t (number_at taken.clock) keeps (Read x) (of_read t x)))

  -- an acquire
  pub acquire_closes : (l : ℕ) (after : State) → ClosesLast th.begin t (kept_of table (LastRelease l)) → Moves (state_in threads table) after (event t (Acquire l)) true
  acquire_closes l = last_closes threads table t th at (Acquire l) (LastRelease l) refl refl refl (λ trace n ss f. acquire l ss refl f)

  pub acquire_moves : (l : ℕ) (taken : Thread) → ¬ ClosesLast th.begin t (kept_of table (LastRelease l)) → TakesClock th taken (last_but t (kept_of table (LastRelease l))) → HasSameBlock th taken → Moves (state_in threads table) (state_in (slice_set threads t taken) table) (event t (Acquire l)) false
  acquire_moves l taken passes takes same =
      last_passes threads table t th at (Acquire l) (LastRelease l) refl refl refl (λ trace n ss f. acquire l ss refl f) (state_in (slice_set threads t taken) table) taken passes takes
      (own_step threads (slice_set threads t taken) table table t (Acquire l) (number_at taken.clock)
      (own_clock threads t th taken at (Acquire l) (λ v. refl))
      (same_blocks_set threads t th taken at same)
      (same_clocks table t (number_at taken.clock) (Acquire l) (of_acquire t l))
      (same_actors table t (number_at taken.clock) (Acquire l) (of_acquire t l)))

  -- the acquire as the code tells it
  pub acquire_answer : (l : ℕ) (taken : Thread) (closes : Bool) → (IsTrue closes ↔ ClosesLast th.begin t (kept_of table (LastRelease l))) → (closes ≡ false → TakesClock th taken (last_but t (kept_of table (LastRelease l)))) → HasSameBlock th taken → Moves (state_in threads table) (state_in (slice_set threads t taken) table) (event t (Acquire l)) closes
  acquire_answer l taken true closing takes same = acquire_closes l _ (closing.0 refl)
  acquire_answer l taken false closing takes same = acquire_moves l taken (λ c. not_true false refl (closing.1 c)) (takes refl) same

  -- an event that takes no clock but its thread's own
  pub plain_none : (s : Slot) → Contains (OfThread t ∷ []) s → s ≢ OfThread t → ⊥
  plain_none s m other = ⊎_elim other (λ a. absurd (none_in a)) (first_or_rest (OfThread t) [] m)

  pub plain_moves : (what : What) → takes_only_own what ≡ true → is_end what ≡ false → is_begin what ≡ false → (after : State) → ((h : List Numbered) → IsStateOf (state_in threads table) h → IsWellFormed (h ++ event t what ∷ []) → IsStep (state_in threads table) (acting after t) (event t what) (number_at th.clock) false) → Moves (state_in threads table) after (event t what) false
  plain_moves what own ends begins after step = record {
    told = λ h stands ok is. cc;
    stands = λ h stands ok is.
        stands_after (state_in threads table) h (event t what) ok stands (OfThread t ∷ []) (plain own) (no_end h t what ends) (acting after t) false (no_begin h t what begins) (number_at th.clock)
        (λ u. omega (arith, ap (λ o. thread_clock o u) at))
        (step h stands ok)
        (none_judged (state_in threads table) h (event t what) ok stands (OfThread t ∷ []) (plain own) (no_end h t what ends) (λ s m other inside le. plain_none s m other));
  }

  -- a release
  pub release_moves : (l : ℕ) (new : Table) → KeepsClock table new (LastRelease l) t (number_at th.clock) → Moves (state_in threads table) (state_in threads new) (event t (Release l)) false
  release_moves l new keeps =
      plain_moves (Release l) refl refl refl (state_in threads new)
      (λ h stands ok. own_step threads threads table new t (Release l) (number_at th.clock)
      (same_clock threads t th at (Release l) (λ v. refl))
      (record { begin = λ u. refl; begins = λ u. refl; acted = λ u. refl })
      (kept_clocks table new (LastRelease l) t (number_at th.clock) keeps (Release l) (of_release t l))
      (kept_actors table new (LastRelease l) t (number_at th.clock) keeps (Release l) (of_release t l)))
