-- One number in the place of a whole comparison.
use Rattle.std.proofs.Common.{◌≡◌, ◌↔◌, ⊎_elim, ℕ, ◌<◌, ◌≤◌, ◌+◌, ◌-◌, max, List, [], Option, Some, None, refl, sym, ap, ◌∙◌, subst, arith, length}
use Rattle.std.specs.Prelude.{◌==◌, Bool, true, false, if◌then◌else◌, slice_get, slice_set, is_some, IsTrue, Result, Ok, Err, OnOk, OnErr}
use Rattle.std.proofs.lemmas.Bool.{cases_eq, cases_lt, cases_Bool, both_ways, eq-eqb, ne_eqb, cond-true, cond-false}
use Rattle.aero_clock.specs.declared.clock.Clock.{Clock}
use Rattle.aero_clock.specs.Numbers.{number_at, IsRaised}
use Rattle.aero_engine.specs.declared.slot.Slot.{Slot}
use Rattle.aero_engine.specs.declared.slot.Slot.TheVariants.{OfThread, LastWrite, LastRead, LastRelease}
use Rattle.aero_engine.proofs.Written.{set_here, written}
use Rattle.aero_access.specs.declared.kept.Kept.{Kept}
use Rattle.aero_access.specs.declared.thread.Thread.{Thread}
use Rattle.aero_access.specs.declared.table.Table.{Table}
use Rattle.aero_access.specs.LastClocks.{kept_clock, same_slot, AreApart}
use Rattle.aero_access.specs.Threads.{number_in, thread_clock, thread_begin, thread_begins, IsClosedBy, CountIsTest, HasSameBlock, AreSameThreads}
use Rattle.aero_access.specs.declared.readers.Readers.{Readers}
use Rattle.aero_access.specs.Table.{readers_in}
use Rattle.aero_access.specs.TableWords.{kept_of, readers_of, labels_of, JoinsSlot}
use Rattle.aero_access.specs.States.{State}
use Rattle.aero_access.specs.StateWords.{clock_in, state_in, slot_in, KeepsClock}
use Rattle.aero_access.specs.Heeds.{Heeds, AreHeeded}
use Rattle.std.proofs.lemmas.Option.{slice_get_within, same_Some}
use Rattle.aero_access.proofs.KeptLists.{find_kept}
use Rattle.aero_access.proofs.SlotNumbers.{slot_thread, slot_label, label_kept}
use Rattle.aero_access.proofs.OwnSteps.{closed_from, closed_to}

-- clocks that heed the begins

pub heeds_same : (w : State) (K L : ℕ → ℕ) → ((u : ℕ) → L u ≡ K u) → Heeds w K → Heeds w L
heeds_same w K L same h = record {
  most = λ t. omega (arith, same t, h.most t);
  behind = λ t inside le u. omega (arith, same u, h.behind t inside (omega (arith, le, same t)) u);
}

pub heeds_max : (w : State) (J K L : ℕ → ℕ) → ((u : ℕ) → L u ≡ max (J u) (K u)) → Heeds w J → Heeds w K → Heeds w L
heeds_max w J K L joined j k = record {
  most = λ t. omega (arith, joined t, j.most t, k.most t);
  behind = λ t inside le u. ⊎_elim
      (λ (less : J t < w.begins t). omega (arith, joined u, k.behind t inside (omega (arith, le, less, joined t)) u))
      (λ enough. omega (arith, joined u, j.behind t inside enough u))
      (cases_lt (J t) (w.begins t));
}

-- as many begins, and each open block was open with the same begin clock
pub record HaveSameBegins (w v : State) : Type 0 where
  pub begins : (t : ℕ) → v.begins t ≡ w.begins t
  pub in_block : (t : ℕ) → v.in_block t ≡ true → w.in_block t ≡ true
  pub begin_clock : (t : ℕ) → v.in_block t ≡ true → (u : ℕ) → v.begin_clock t u ≡ w.begin_clock t u

pub heeds_still : (w v : State) (K : ℕ → ℕ) → HaveSameBegins w v → Heeds w K → Heeds v K
heeds_still w v K same h = record {
  most = λ t. omega (arith, same.begins t, h.most t);
  behind = λ t inside le u. omega (arith, same.begin_clock t inside u, h.behind t (same.in_block t inside) (omega (arith, le, same.begins t)) u);
}

-- the same blocks, and clocks that heed them
pub heeded_still : (w v : State) → HaveSameBegins w v → ((t : ℕ) → w.clock (OfThread t) t ≤ v.clock (OfThread t) t) → ((s : Slot) → Heeds w (v.clock s)) → AreHeeded w → AreHeeded v
heeded_still w v same grows clocks h = record {
  own = λ t. omega (arith, same.begins t, grows t, h.own t);
  begun = λ t inside. omega (arith, same.begins t, h.begun t (same.in_block t inside));
  counted = λ t inside. omega (arith, same.begins t, same.begin_clock t inside t, h.counted t (same.in_block t inside));
  slots = λ s. heeds_still w v (v.clock s) same (clocks s);
}

-- the number of a thread is a test for each slot's clock
pub slot_test : (threads : List Thread) (table : Table) (t : ℕ) (th : Thread) → AreHeeded (state_in threads table) → slice_get threads t ≡ Some th → (K : ℕ → ℕ) → Heeds (state_in threads table) K → CountIsTest th t K
slot_test threads table t th h at K heeds = record {
  counted = λ closed.
      let c = closed_to th.begin K closed in
      let b : thread_begins (slice_get threads t) ≡ th.begins = ap thread_begins at in
      let n : number_in (thread_begin (slice_get threads t)) t ≡ number_in th.begin t = ap (λ o. number_in (thread_begin o) t) at in
      omega (arith, b, n, h.counted t (ap (λ o. is_some (thread_begin o)) at ∙ c.0), c.1 t);
  closed = λ inside le.
      let b : thread_begins (slice_get threads t) ≡ th.begins = ap thread_begins at in
      closed_from th.begin K inside
      (λ u. let n : number_in (thread_begin (slice_get threads t)) u ≡ number_in th.begin u = ap (λ o. number_in (thread_begin o) u) at in
      omega (arith, n, heeds.behind t (ap (λ o. is_some (thread_begin o)) at ∙ inside) (omega (arith, b, le)) u));
}

-- a thread with the same block has the same tests
pub test_still : (a b : Thread) (t : ℕ) (K : ℕ → ℕ) → HasSameBlock a b → CountIsTest a t K → CountIsTest b t K
test_still a b t K same h = record {
  counted = λ closed. omega (arith, same.begins, h.counted (subst (λ o. IsClosedBy o K) same.begin closed));
  closed = λ inside le. subst (λ o. IsClosedBy o K) (sym same.begin) (h.closed (sym (ap is_some same.begin) ∙ inside) (omega (arith, le, same.begins)));
}

-- what is kept of a slot, as the clock of the slot
pub kept_heeds : (threads : List Thread) (table : Table) → AreHeeded (state_in threads table) → (s : Slot) → Heeds (state_in threads table) (kept_clock (kept_of table s))
kept_heeds threads table h (OfThread t) = heeds_zero
  where
    heeds_zero : Heeds (state_in threads table) (λ u. 0)
    heeds_zero = record {
      most = λ t. omega arith;
      behind = λ t inside le u. absurd (omega (arith, le, h.begun t inside));
    }
kept_heeds threads table h (LastWrite x) = h.slots (LastWrite x)
kept_heeds threads table h (LastRead x t) = h.slots (LastRead x t)
kept_heeds threads table h (LastRelease l) = h.slots (LastRelease l)

pub one_heeds : (threads : List Thread) (table : Table) → AreHeeded (state_in threads table) → (s : Slot) (k : Kept) → kept_of table s ≡ Some k → Heeds (state_in threads table) (number_at k.clock)
one_heeds threads table h s k at = heeds_same (state_in threads table) (kept_clock (kept_of table s)) (number_at k.clock) (λ u. sym (ap (λ o. kept_clock o u) at)) (kept_heeds threads table h s)

pub thread_heeds : (threads : List Thread) (table : Table) → AreHeeded (state_in threads table) → (t : ℕ) (th : Thread) → slice_get threads t ≡ Some th → Heeds (state_in threads table) (number_at th.clock)
thread_heeds threads table h t th at = heeds_same (state_in threads table) (thread_clock (slice_get threads t)) (number_at th.clock) (λ u. sym (ap (λ o. thread_clock o u) at)) (h.slots (OfThread t))

-- other clocks of slots
pub heeded_table : (threads : List Thread) (table new : Table) → ((s : Slot) → Heeds (state_in threads table) (kept_clock (kept_of new s))) → AreHeeded (state_in threads table) → AreHeeded (state_in threads new)
heeded_table threads table new clocks h = heeded_still (state_in threads table) (state_in threads new) (record { begins = λ t. refl; in_block = λ t inside. inside; begin_clock = λ t inside u. refl }) (λ t. omega arith) all h
  where
    all : (s : Slot) → Heeds (state_in threads table) (clock_in threads new s)
    all (OfThread t) = h.slots (OfThread t)
    all (LastWrite x) = clocks (LastWrite x)
    all (LastRead x t) = clocks (LastRead x t)
    all (LastRelease l) = clocks (LastRelease l)

-- another clock of a thread, or no open block
module _ (threads : List Thread) (table : Table) (t : ℕ) (th new : Thread) (at : slice_get threads t ≡ Some th) (same_begins : new.begins ≡ th.begins) (same_block : is_some new.begin ≡ true → new.begin ≡ th.begin) where
  -- what is asked of an open block
  at_block : {X : Type 0} (f : Option Clock → X) (u : ℕ) → is_some (thread_begin (slice_get (slice_set threads t new) u)) ≡ true → f (thread_begin (slice_get (slice_set threads t new) u)) ≡ f (thread_begin (slice_get threads u))
  at_block f u inside = ⊎_elim
      (λ (e : t ≡ u).
      let block : thread_begin (slice_get (slice_set threads t new) u) ≡ new.begin = written threads t th new at thread_begin u ∙ cond-true (t == u) _ _ (eq-eqb t u e) in
      ap f block ∙ ap f (same_block (sym (ap is_some block) ∙ inside)) ∙ sym (ap (λ o. f (thread_begin o)) at) ∙ ap (λ v. f (thread_begin (slice_get threads v))) e)
      (λ ne. ap f (written threads t th new at thread_begin u ∙ cond-false (t == u) _ _ (ne_eqb t u ne)))
      (cases_eq t u)

  as_many : (u : ℕ) → thread_begins (slice_get (slice_set threads t new) u) ≡ thread_begins (slice_get threads u)
  as_many u = ⊎_elim
      (λ (e : t ≡ u). written threads t th new at thread_begins u ∙ cond-true (t == u) _ _ (eq-eqb t u e) ∙ same_begins ∙ sym (ap thread_begins at) ∙ ap (λ v. thread_begins (slice_get threads v)) e)
      (λ ne. written threads t th new at thread_begins u ∙ cond-false (t == u) _ _ (ne_eqb t u ne))
      (cases_eq t u)

  pub same_begins_set : HaveSameBegins (state_in threads table) (state_in (slice_set threads t new) table)
  same_begins_set = record {
    begins = as_many;
    in_block = λ u inside. sym (at_block is_some u inside) ∙ inside;
    begin_clock = λ u inside v. at_block (λ o. number_in o v) u inside;
  }

  pub heeded_set : ((u : ℕ) → number_at th.clock u ≤ number_at new.clock u) → Heeds (state_in threads table) (number_at new.clock) → AreHeeded (state_in threads table) → AreHeeded (state_in (slice_set threads t new) table)
  heeded_set grows heeds h = heeded_still (state_in threads table) (state_in (slice_set threads t new) table) same_begins_set own all h
    where
      clock_is : (v u : ℕ) → thread_clock (slice_get (slice_set threads t new) v) u ≡ (if t == v then number_at new.clock u else thread_clock (slice_get threads v) u)
      clock_is v u = written threads t th new at (λ o. thread_clock o u) v

      own : (v : ℕ) → thread_clock (slice_get threads v) v ≤ thread_clock (slice_get (slice_set threads t new) v) v
      own v = ⊎_elim
          (λ (e : t ≡ v).
          let now : thread_clock (slice_get (slice_set threads t new) v) v ≡ number_at new.clock v = clock_is v v ∙ cond-true (t == v) _ _ (eq-eqb t v e) in
          let was : thread_clock (slice_get threads v) v ≡ number_at th.clock v = sym (ap (λ m. thread_clock (slice_get threads m) v) e) ∙ ap (λ o. thread_clock o v) at in
          omega (arith, now, was, grows v))
          (λ ne. let now : thread_clock (slice_get (slice_set threads t new) v) v ≡ thread_clock (slice_get threads v) v = clock_is v v ∙ cond-false (t == v) _ _ (ne_eqb t v ne) in omega (arith, now))
          (cases_eq t v)

      of_thread : (v : ℕ) → Heeds (state_in threads table) (thread_clock (slice_get (slice_set threads t new) v))
      of_thread v = ⊎_elim
          (λ (e : t ≡ v). heeds_same (state_in threads table) (number_at new.clock) (thread_clock (slice_get (slice_set threads t new) v)) (λ u. clock_is v u ∙ cond-true (t == v) _ _ (eq-eqb t v e)) heeds)
          (λ ne. heeds_same (state_in threads table) (thread_clock (slice_get threads v)) (thread_clock (slice_get (slice_set threads t new) v)) (λ u. clock_is v u ∙ cond-false (t == v) _ _ (ne_eqb t v ne)) (h.slots (OfThread v)))
          (cases_eq t v)

      all : (s : Slot) → Heeds (state_in threads table) (clock_in (slice_set threads t new) table s)
      all (OfThread v) = of_thread v
      all (LastWrite x) = h.slots (LastWrite x)
      all (LastRead x v) = h.slots (LastRead x v)
      all (LastRelease l) = h.slots (LastRelease l)

-- the same threads
pub heeded_threads : (a b : List Thread) (table : Table) → AreSameThreads a b → AreHeeded (state_in a table) → AreHeeded (state_in b table)
heeded_threads a b table same h = heeded_still (state_in a table) (state_in b table)
    (record { begins = same.begins; in_block = λ t inside. sym (ap is_some (same.begin t)) ∙ inside; begin_clock = λ t inside u. ap (λ o. number_in o u) (same.begin t) })
    (λ t. omega (arith, same.clock t t)) all h
  where
    all : (s : Slot) → Heeds (state_in a table) (clock_in b table s)
    all (OfThread t) = heeds_same (state_in a table) (thread_clock (slice_get a t)) (thread_clock (slice_get b t)) (same.clock t) (h.slots (OfThread t))
    all (LastWrite x) = h.slots (LastWrite x)
    all (LastRead x t) = h.slots (LastRead x t)
    all (LastRelease l) = h.slots (LastRelease l)

-- nothing at first
pub heeded_first : (threads : List Thread) (table : Table) → threads ≡ [] → ((s : Slot) → kept_of table s ≡ None) → AreHeeded (state_in threads table)
heeded_first threads table none kept = record {
  own = λ t. let b : thread_begins (slice_get threads t) ≡ 0 = ap (λ xs. thread_begins (slice_get xs t)) none in omega (arith, b);
  begun = λ t inside. absurd (both_ways (is_some (thread_begin (slice_get threads t))) (outside t) inside);
  counted = λ t inside. absurd (both_ways (is_some (thread_begin (slice_get threads t))) (outside t) inside);
  slots = λ s. record {
    most = λ t. let z : clock_in threads table s t ≡ 0 = zero_at s t in omega (arith, z);
    behind = λ t inside le u. absurd (both_ways (is_some (thread_begin (slice_get threads t))) (outside t) inside);
  };
}
  where
    outside : (t : ℕ) → is_some (thread_begin (slice_get threads t)) ≡ false
    outside t = ap (λ xs. is_some (thread_begin (slice_get xs t))) none

    zero_at : (s : Slot) (u : ℕ) → clock_in threads table s u ≡ 0
    zero_at (OfThread t) u = ap (λ xs. thread_clock (slice_get xs t) u) none
    zero_at (LastWrite x) u = ap (λ o. kept_clock o u) (kept (LastWrite x))
    zero_at (LastRead x t) u = ap (λ o. kept_clock o u) (kept (LastRead x t))
    zero_at (LastRelease l) u = ap (λ o. kept_clock o u) (kept (LastRelease l))

-- what the code does, one step at a time

abbrev pub TakesFrom : Table → Slot → Thread → Thread → Type 0
TakesFrom table slot th new = (w : State) → Heeds w (number_at th.clock) → ((k : Kept) → kept_of table slot ≡ Some k → Heeds w (number_at k.clock)) → Heeds w (number_at new.clock)

abbrev pub KeepsFrom : Table → Table → Thread → Type 0
KeepsFrom table new th = (w : State) → Heeds w (number_at th.clock) → ((s : Slot) → Heeds w (kept_clock (kept_of table s))) → (s : Slot) → Heeds w (kept_clock (kept_of new s))

module _ (threads : List Thread) (table : Table) (h : AreHeeded (state_in threads table)) (t : ℕ) (th : Thread) (at : slice_get threads t ≡ Some th) where
  -- the clock of a slot, or of its last event, is tested by a number
  pub kept_test : (slot : Slot) (k : Kept) → kept_of table slot ≡ Some k → CountIsTest th t (number_at k.clock)
  kept_test slot k at_k = slot_test threads table t th h at (number_at k.clock) (one_heeds threads table h slot k at_k)

  pub reader_heeds : (x i : ℕ) (k : Kept) → slice_get (readers_of table x) i ≡ Some k → Heeds (state_in threads table) (number_at k.clock)
  reader_heeds x i k at_k = one_heeds threads table h (LastRead x k.thread) k (find_kept (readers_of table x) i k.thread k (apart (slice_get table.entries.reads.items x)) at_k refl)
    where
      apart : (o : Option Readers) → AreApart (readers_in o)
      apart None = λ i j t a b. cc
      apart (Some r) = r.apart

  pub reader_test : (x i : ℕ) (k : Kept) → slice_get (readers_of table x) i ≡ Some k → CountIsTest th t (number_at k.clock)
  reader_test x i k at_k = slot_test threads table t th h at (number_at k.clock) (reader_heeds x i k at_k)

  -- the thread takes clocks
  pub heeded_clock : (new : Thread) → HasSameBlock th new → ((u : ℕ) → number_at th.clock u ≤ number_at new.clock u) → Heeds (state_in threads table) (number_at new.clock) → AreHeeded (state_in (slice_set threads t new) table)
  heeded_clock new same grows heeds = heeded_set threads table t th new at same.begins (λ _. same.begin) grows heeds h

  pub taken_heeds : (slot : Slot) (new : Thread) → TakesFrom table slot th new → Heeds (state_in threads table) (number_at new.clock)
  taken_heeds slot new takes = takes (state_in threads table) (thread_heeds threads table h t th at) (one_heeds threads table h slot)

  pub heeded_taken : (slot : Slot) (new : Thread) → HasSameBlock th new → ((u : ℕ) → number_at th.clock u ≤ number_at new.clock u) → TakesFrom table slot th new → AreHeeded (state_in (slice_set threads t new) table)
  heeded_taken slot new same grows takes = heeded_clock new same grows (taken_heeds slot new takes)

  -- a slot keeps its clock
  pub heeded_kept : (new : Table) → KeepsFrom table new th → AreHeeded (state_in threads new)
  heeded_kept new keeps = heeded_table threads table new (keeps (state_in threads table) (thread_heeds threads table h t th at) (kept_heeds threads table h)) h

-- both
pub heeded_taken_kept : (threads : List Thread) (table : Table) (t : ℕ) (th new : Thread) → slice_get threads t ≡ Some th → (after : Table) → AreHeeded (state_in (slice_set threads t new) table) → KeepsFrom table after new → AreHeeded (state_in (slice_set threads t new) after)
heeded_taken_kept threads table t th new at after h keeps = heeded_kept (slice_set threads t new) table h t new (set_here threads t new (slice_get_within threads t th at)) after keeps

-- a slot's clock joined with another
pub joined_heeds : (w : State) (old new : Table) (slot : Slot) (K : ℕ → ℕ) → JoinsSlot old new slot K → Heeds w K → ((s : Slot) → Heeds w (kept_clock (kept_of old s))) → (s : Slot) → Heeds w (kept_clock (kept_of new s))
joined_heeds w old new slot K joins k all s = ⊎_elim
    (λ (e : same_slot s slot ≡ true). heeds_max w (kept_clock (kept_of old s)) K (kept_clock (kept_of new s)) (λ u. joins.clock s u ∙ cond-true (same_slot s slot) _ _ e) (all s) k)
    (λ e. heeds_same w (kept_clock (kept_of old s)) (kept_clock (kept_of new s)) (λ u. joins.clock s u ∙ cond-false (same_slot s slot) _ _ e) (all s))
    (cases_Bool (same_slot s slot))

pub still_heeds : (w : State) (old new : Table) → ((s : Slot) → kept_of new s ≡ kept_of old s) → ((s : Slot) → Heeds w (kept_clock (kept_of old s))) → (s : Slot) → Heeds w (kept_clock (kept_of new s))
still_heeds w old new same all s = heeds_same w (kept_clock (kept_of old s)) (kept_clock (kept_of new s)) (λ u. ap (λ o. kept_clock o u) (same s)) (all s)

pub set_heeds : (w : State) (old new : Table) (slot : Slot) (t : ℕ) (K : ℕ → ℕ) → KeepsClock old new slot t K → Heeds w K → ((s : Slot) → Heeds w (kept_clock (kept_of old s))) → (s : Slot) → Heeds w (kept_clock (kept_of new s))
set_heeds w old new slot t K keeps k all s = ⊎_elim
    (λ (e : same_slot s slot ≡ true). heeds_same w K (kept_clock (kept_of new s)) (λ u. keeps.clock s u ∙ cond-true (same_slot s slot) _ _ e) k)
    (λ e. heeds_same w (kept_clock (kept_of old s)) (kept_clock (kept_of new s)) (λ u. keeps.clock s u ∙ cond-false (same_slot s slot) _ _ e) (all s))
    (cases_Bool (same_slot s slot))

-- a thread begins a block
pub heeded_begin : (threads : List Thread) (table : Table) → AreHeeded (state_in threads table) → (t : ℕ) (th new : Thread) → slice_get threads t ≡ Some th
    → IsRaised new.clock th.clock t → ((u : ℕ) → number_in new.begin u ≡ number_at new.clock u) → new.begins ≡ th.begins + 1 → AreHeeded (state_in (slice_set threads t new) table)
heeded_begin threads table h t th new at raised begin begins = record { own = own; begun = begun; counted = counted; slots = slots }
  where
    after : State
    after = state_in (slice_set threads t new) table

    before : State
    before = state_in threads table

    here_is : {X : Type 0} (f : Option Thread → X) (u : ℕ) → t ≡ u → f (slice_get (slice_set threads t new) u) ≡ f (Some new)
    here_is f u e = written threads t th new at f u ∙ cond-true (t == u) _ _ (eq-eqb t u e)

    there_is : {X : Type 0} (f : Option Thread → X) (u : ℕ) → (t ≡ u → ⊥) → f (slice_get (slice_set threads t new) u) ≡ f (slice_get threads u)
    there_is f u ne = written threads t th new at f u ∙ cond-false (t == u) _ _ (ne_eqb t u ne)

    was : {X : Type 0} (f : Option Thread → X) (u : ℕ) → t ≡ u → f (slice_get threads u) ≡ f (Some th)
    was f u e = sym (ap (λ v. f (slice_get threads v)) e) ∙ ap f at

    at_own : number_at new.clock t ≡ number_at th.clock t + 1
    at_own = raised.at t ∙ cond-true (t == t) _ _ (eq-eqb t t refl)

    at_other : (u : ℕ) → (t ≡ u → ⊥) → number_at new.clock u ≡ number_at th.clock u
    at_other u ne = raised.at u ∙ cond-false (u == t) _ _ (ne_eqb u t (λ e. ne (sym e)))

    at_least : (u : ℕ) → number_at th.clock u ≤ number_at new.clock u
    at_least u = ⊎_elim (λ (e : t ≡ u). let n : number_at new.clock u ≡ number_at new.clock t = ap (number_at new.clock) (sym e) in let m : number_at th.clock u ≡ number_at th.clock t = ap (number_at th.clock) (sym e) in omega (arith, n, m, at_own)) (λ ne. omega (arith, at_other u ne)) (cases_eq t u)

    old_own : th.begins ≤ number_at th.clock t
    old_own = omega (arith, h.own t, ap thread_begins at, ap (λ o. thread_clock o t) at)

    more_begins : (u : ℕ) → thread_begins (slice_get threads u) ≤ thread_begins (slice_get (slice_set threads t new) u)
    more_begins u = ⊎_elim (λ (e : t ≡ u). omega (arith, here_is thread_begins u e, was thread_begins u e, begins)) (λ ne. omega (arith, there_is thread_begins u ne)) (cases_eq t u)

    own : (u : ℕ) → after.begins u ≤ after.clock (OfThread u) u
    own u = ⊎_elim
        (λ (e : t ≡ u). let n : number_at new.clock u ≡ number_at new.clock t = ap (number_at new.clock) (sym e) in omega (arith, here_is thread_begins u e, here_is (λ o. thread_clock o u) u e, begins, old_own, at_own, n))
        (λ ne. omega (arith, there_is thread_begins u ne, there_is (λ o. thread_clock o u) u ne, h.own u))
        (cases_eq t u)

    begun : (u : ℕ) → after.in_block u ≡ true → 0 < after.begins u
    begun u inside = ⊎_elim
        (λ (e : t ≡ u). omega (arith, here_is thread_begins u e, begins))
        (λ ne. omega (arith, there_is thread_begins u ne, h.begun u (sym (there_is (λ o. is_some (thread_begin o)) u ne) ∙ inside)))
        (cases_eq t u)

    counted : (u : ℕ) → after.in_block u ≡ true → after.begins u ≤ after.begin_clock u u
    counted u inside = ⊎_elim
        (λ (e : t ≡ u). let n : number_at new.clock u ≡ number_at new.clock t = ap (number_at new.clock) (sym e) in omega (arith, here_is thread_begins u e, here_is (λ o. number_in (thread_begin o) u) u e, begin u, begins, old_own, at_own, n))
        (λ ne. omega (arith, there_is thread_begins u ne, there_is (λ o. number_in (thread_begin o) u) u ne, h.counted u (sym (there_is (λ o. is_some (thread_begin o)) u ne) ∙ inside)))
        (cases_eq t u)

    -- the new begin is counted nowhere else
    others : (K : ℕ → ℕ) → Heeds before K → Heeds after K
    others K k = record {
      most = λ u. omega (arith, k.most u, more_begins u);
      behind = λ u inside le v. ⊎_elim
          (λ (e : t ≡ u). absurd (omega (arith, le, here_is thread_begins u e, begins, was thread_begins u e, k.most u)))
          (λ ne. omega (arith, there_is (λ o. number_in (thread_begin o) v) u ne, k.behind u (sym (there_is (λ o. is_some (thread_begin o)) u ne) ∙ inside) (omega (arith, le, there_is thread_begins u ne)) v))
          (cases_eq t u);
    }

    old_heeds : Heeds before (number_at th.clock)
    old_heeds = thread_heeds threads table h t th at

    its_own : Heeds after (number_at new.clock)
    its_own = record {
      most = λ u. ⊎_elim
          (λ (e : t ≡ u). let n : number_at new.clock u ≡ number_at new.clock t = ap (number_at new.clock) (sym e) in let m : thread_begins (slice_get threads t) ≡ th.begins = ap thread_begins at in omega (arith, here_is thread_begins u e, begins, old_heeds.most t, at_own, n, m))
          (λ ne. omega (arith, there_is thread_begins u ne, at_other u ne, old_heeds.most u))
          (cases_eq t u);
      behind = λ u inside le v. ⊎_elim
          (λ (e : t ≡ u). omega (arith, here_is (λ o. number_in (thread_begin o) v) u e, begin v))
          (λ ne. omega (arith, there_is (λ o. number_in (thread_begin o) v) u ne, at_least v, old_heeds.behind u (sym (there_is (λ o. is_some (thread_begin o)) u ne) ∙ inside) (omega (arith, le, there_is thread_begins u ne, at_other u ne)) v))
          (cases_eq t u);
    }

    slots : (s : Slot) → Heeds after (after.clock s)
    slots (OfThread v) = ⊎_elim
        (λ (e : t ≡ v). heeds_same after (number_at new.clock) (after.clock (OfThread v)) (λ u. here_is (λ o. thread_clock o u) v e) its_own)
        (λ ne. heeds_same after (before.clock (OfThread v)) (after.clock (OfThread v)) (λ u. there_is (λ o. thread_clock o u) v ne) (others (before.clock (OfThread v)) (h.slots (OfThread v))))
        (cases_eq t v)
    slots (LastWrite x) = others (before.clock (LastWrite x)) (h.slots (LastWrite x))
    slots (LastRead x v) = others (before.clock (LastRead x v)) (h.slots (LastRead x v))
    slots (LastRelease l) = others (before.clock (LastRelease l)) (h.slots (LastRelease l))

-- or is refused one
pub heeded_begin_answer : (threads : List Thread) (table : Table) → AreHeeded (state_in threads table) → (t : ℕ) (th new : Thread) → slice_get threads t ≡ Some th → {E : Type 0} (r : Result (Unit {0}) E)
    → OnOk r (IsRaised new.clock th.clock t) → OnOk r ((u : ℕ) → number_in new.begin u ≡ number_at new.clock u) → OnOk r (new.begins ≡ th.begins + 1) → OnErr r (HasSameBlock th new) → OnErr r ((u : ℕ) → number_at new.clock u ≡ number_at th.clock u)
    → AreHeeded (state_in (slice_set threads t new) table)
heeded_begin_answer threads table h t th new at (Ok x) raised begin begins same clock = heeded_begin threads table h t th new at raised begin begins
heeded_begin_answer threads table h t th new at (Err e) raised begin begins same clock =
    heeded_clock threads table h t th at new same (λ u. omega (arith, clock u)) (heeds_same (state_in threads table) (number_at th.clock) (number_at new.clock) clock (thread_heeds threads table h t th at))

-- which clock a number asks for

pub kept_slot : (threads : List Thread) (table : Table) (s : Slot) → is_some (kept_of table s) ≡ true → (u : ℕ) → clock_in threads table s u ≡ kept_clock (kept_of table s) u
kept_slot threads table (OfThread t) some u = cc
kept_slot threads table (LastWrite x) some u = refl
kept_slot threads table (LastRead x t) some u = refl
kept_slot threads table (LastRelease l) some u = refl

pub closed_same : (o : Option Clock) (K L : ℕ → ℕ) → ((u : ℕ) → K u ≡ L u) → IsClosedBy o K → IsClosedBy o L
closed_same None K L same h = h
closed_same (Some b) K L same h = λ u. omega (arith, same u, h u)

module _ (threads : List Thread) (table : Table) (t : ℕ) (th : Thread) (at : slice_get threads t ≡ Some th) (b : Bool) where
  tested : (K L : ℕ → ℕ) → ((u : ℕ) → L u ≡ K u) → IsTrue b ↔ IsClosedBy th.begin K → IsTrue b ↔ IsClosedBy (thread_begin (slice_get threads t)) L
  tested K L same h = (
    λ e. subst (λ o. IsClosedBy (thread_begin o) L) (sym at) (closed_same th.begin K L (λ u. sym (same u)) (h.0 e)),
    λ c. h.1 (closed_same th.begin L K same (subst (λ o. IsClosedBy (thread_begin o) L) at c)),
  )

  pub tested_thread : (slot : ℕ) (target : Thread) → slice_get threads slot ≡ Some target → IsTrue b ↔ IsClosedBy th.begin (number_at target.clock) → IsTrue b ↔ IsClosedBy (thread_begin (slice_get threads t)) (clock_in threads table (slot_in threads table slot))
  tested_thread slot target at_slot h =
      tested (number_at target.clock) (clock_in threads table (slot_in threads table slot))
      (λ u. ap (λ s. clock_in threads table s u) (slot_thread threads table slot (slice_get_within threads slot target at_slot)) ∙ ap (λ o. thread_clock o u) at_slot) h

  pub tested_kept : (slot : ℕ) (label : Slot) (k : Kept) → length threads ≤ slot → slice_get (labels_of table) (slot - length threads) ≡ Some label → Some k ≡ kept_of table label → IsTrue b ↔ IsClosedBy th.begin (number_at k.clock)
      → IsTrue b ↔ IsClosedBy (thread_begin (slice_get threads t)) (clock_in threads table (slot_in threads table slot))
  tested_kept slot label k beyond at_label at_k h =
      tested (number_at k.clock) (clock_in threads table (slot_in threads table slot))
      (λ u. ap (λ s. clock_in threads table s u) (slot_label threads table slot label beyond at_label) ∙ kept_slot threads table label (label_kept table (slot - length threads) label at_label) u ∙ sym (ap (λ o. kept_clock o u) at_k)) h

-- which thread an absorbed clock tells
pub absorb_told : (threads : List Thread) (table : Table) (t slot : ℕ) (th target : Thread) → slice_get threads t ≡ Some th → slice_get threads slot ≡ Some target → (copy : Clock) → ((u : ℕ) → number_at copy u ≡ number_at th.clock u)
    → (b : Bool) (o : Option ℕ) → (b ≡ true → o ≡ Some slot) → (b ≡ false → o ≡ None) → IsTrue b ↔ IsClosedBy target.begin (number_at copy)
    → (u : ℕ) → (o ≡ Some u) ↔ ((slot_in threads table slot ≡ OfThread u) × IsClosedBy (thread_begin (slice_get threads u)) (thread_clock (slice_get threads t)))
absorb_told threads table t slot th target at at_slot copy copied b o told untold tests u = (forth b told untold (λ e. tests.0 e), back)
  where
    here : slot_in threads table slot ≡ OfThread slot
    here = slot_thread threads table slot (slice_get_within threads slot target at_slot)

    clock_is : (v : ℕ) → thread_clock (slice_get threads t) v ≡ number_at copy v
    clock_is v = ap (λ a. thread_clock a v) at ∙ sym (copied v)

    forth : (c : Bool) → (c ≡ true → o ≡ Some slot) → (c ≡ false → o ≡ None) → (IsTrue c → IsClosedBy target.begin (number_at copy)) → o ≡ Some u → (slot_in threads table slot ≡ OfThread u) × IsClosedBy (thread_begin (slice_get threads u)) (thread_clock (slice_get threads t))
    forth true some none closed e =
        let same : slot ≡ u = same_Some slot u (sym (some refl) ∙ e) in (
          here ∙ ap OfThread same,
          subst (λ v. IsClosedBy (thread_begin (slice_get threads v)) (thread_clock (slice_get threads t))) same
              (subst (λ a. IsClosedBy (thread_begin a) (thread_clock (slice_get threads t))) (sym at_slot)
              (closed_same target.begin (number_at copy) (thread_clock (slice_get threads t)) (λ v. sym (clock_is v)) (closed refl))),
        )
    forth false some none closed e = let z : None ≡ Some u = sym (none refl) ∙ e in absurd (cc)

    is_true : (c : Bool) → IsTrue c → c ≡ true
    is_true true h = refl
    is_true false h = cc

    back : (slot_in threads table slot ≡ OfThread u) × IsClosedBy (thread_begin (slice_get threads u)) (thread_clock (slice_get threads t)) → o ≡ Some u
    back p =
        let same : slot ≡ u = let z : OfThread slot ≡ OfThread u = sym here ∙ p.0 in cc in
        let closed =
        closed_same target.begin (thread_clock (slice_get threads t)) (number_at copy) clock_is
        (subst (λ a. IsClosedBy (thread_begin a) (thread_clock (slice_get threads t))) at_slot
        (subst (λ v. IsClosedBy (thread_begin (slice_get threads v)) (thread_clock (slice_get threads t))) (sym same) p.1))
        in
        told (is_true b (tests.1 closed)) ∙ ap Some same
