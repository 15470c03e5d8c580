-- Slots by their numbers, and what the end of a block does to them.
use Rattle.std.proofs.Common.{◌≡◌, ◌⊎◌, inl, inr, ⊎_elim, ℕ, zero, suc, ◌+◌, ◌-◌, ◌<◌, ◌≤◌, List, [], ◌∷◌, length, max, Option, Some, None, refl, sym, ap, ◌∙◌, subst, arith}
use Rattle.std.specs.Prelude.{◌↔◌, ◌==◌, nat_lt, true, false, if◌then◌else◌, slice_get, slice_set, is_some}
use Rattle.std.specs.List.{list_any}
use Rattle.std.proofs.lemmas.Bool.{cases_Bool, cases_eq, both_ways, eq-eqb, ne_eqb, lt-ltb, le-ltb, cond-true, cond-false, or_cases, or_left, or_right}
use Rattle.std.proofs.lemmas.Option.{slice_get_within, slice_get_cases}
use Rattle.std.proofs.Math.ListN.{length-set}
use Rattle.aero_clock.specs.declared.clock.Clock.{Clock}
use Rattle.aero_clock.specs.Numbers.{number_at}
use Rattle.aero_engine.specs.declared.slot.Slot.{Slot}
use Rattle.aero_engine.specs.declared.slot.Slot.TheVariants.{OfThread, LastWrite, LastRead, LastRelease}
use Rattle.aero_engine.proofs.Written.{written}
use Rattle.aero_access.specs.declared.kept.Kept.{Kept}
use Rattle.aero_access.specs.declared.thread.Thread.{Thread}
use Rattle.aero_access.specs.declared.table.Table.{Table}
use Rattle.aero_access.specs.declared.clocks.Clocks.{Clocks}
use Rattle.aero_access.specs.LastClocks.{kept_clock, kept_thread, same_slot}
use Rattle.aero_access.specs.Threads.{number_in, thread_clock, thread_begin, thread_begins, thread_acted, IsClosedBy, TakesClock}
use Rattle.aero_access.specs.TableWords.{kept_of, labels_of, JoinsSlot}
use Rattle.aero_access.specs.StateWords.{clock_in, state_in, slot_or, slot_in, JoinsClock}
use Rattle.aero_access.specs.Standing.{state_of, is_spent, closed_by, slot_at, ClosesBack, ClosesBlock, IsFinished}
use Rattle.aero_access.proofs.KeptLists.{same_slot_is, same_slot_self}
use Rattle.aero_access.proofs.OwnSteps.{closed_from, closed_to}

-- places of a list of labels
pub labelled_at : (s : Slot) (labels : List Slot) (i : ℕ) → slice_get labels i ≡ Some s → list_any (same_slot s) labels ≡ true
labelled_at s [] i h = cc
labelled_at s (x ∷ labels) zero h = let e : x ≡ s = cc in or_left _ _ (ap (same_slot s) e ∙ same_slot_self s)
labelled_at s (x ∷ labels) (suc i) h = or_right _ _ (labelled_at s labels i h)

label_of : (s : Slot) (labels : List Slot) → list_any (same_slot s) labels ≡ true → (i : ℕ) × (i < length labels) × (slice_get labels i ≡ Some s)
label_of s [] h = cc
label_of s (x ∷ labels) h =
    ⊎_elim
    (λ e. (0, omega arith, ap Some (sym (same_slot_is s x e))))
    (λ e. let r = label_of s labels e in (suc r.0, omega (arith, r.1), r.2))
    (or_cases (same_slot s x) (list_any (same_slot s) labels) h)

-- what has a label is kept
pub label_kept : (table : Table) (i : ℕ) (s : Slot) → slice_get (labels_of table) i ≡ Some s → is_some (kept_of table s) ≡ true
label_kept table i s h = sym (table.labelled s) ∙ labelled_at s (labels_of table) i h

module _ (threads : List Thread) (table : Table) where
  pub slot_thread : (n : ℕ) → n < length threads → slot_in threads table n ≡ OfThread n
  slot_thread n l = cond-true (nat_lt n (length threads)) _ _ (lt-ltb n (length threads) l)

  pub slot_label : (n : ℕ) (s : Slot) → length threads ≤ n → slice_get (labels_of table) (n - length threads) ≡ Some s → slot_in threads table n ≡ s
  slot_label n s l h = cond-false (nat_lt n (length threads)) _ _ (le-ltb n (length threads) l) ∙ ap (slot_or n) h

  -- each slot whose clock is not zero has a number
  pub numbered : (s : Slot) (u : ℕ) → 0 < clock_in threads table s u → (n : ℕ) × (n < length threads + length (labels_of table)) × (slot_in threads table n ≡ s)
  numbered s u some = go s some
    where
      of_kept : (s : Slot) (o : Option Kept) → kept_of table s ≡ o → 0 < kept_clock o u → (n : ℕ) × (n < length threads + length (labels_of table)) × (slot_in threads table n ≡ s)
      of_kept s None e some = absurd (omega arith)
      of_kept s (Some k) e some =
          let r = label_of s (labels_of table) (table.labelled s ∙ ap is_some e) in
          let place : length threads + r.0 - length threads ≡ r.0 = omega arith in
          (length threads + r.0, omega (arith, r.1), slot_label (length threads + r.0) s (omega arith) (ap (slice_get (labels_of table)) place ∙ r.2))

      of_thread : (t : ℕ) (o : Option Thread) → slice_get threads t ≡ o → 0 < thread_clock o u → (n : ℕ) × (n < length threads + length (labels_of table)) × (slot_in threads table n ≡ OfThread t)
      of_thread t None e some = absurd (omega arith)
      of_thread t (Some p) e some = let l = slice_get_within threads t p e in (t, omega (arith, l), slot_thread t l)

      go : (s : Slot) → 0 < clock_in threads table s u → (n : ℕ) × (n < length threads + length (labels_of table)) × (slot_in threads table n ≡ s)
      go (OfThread t) some = of_thread t (slice_get threads t) refl some
      go (LastWrite x) some = of_kept (LastWrite x) (kept_of table (LastWrite x)) refl some
      go (LastRead x t) some = of_kept (LastRead x t) (kept_of table (LastRead x t)) refl some
      go (LastRelease l) some = of_kept (LastRelease l) (kept_of table (LastRelease l)) refl some

  -- a label is no thread's
  pub no_thread : (i t : ℕ) → slice_get (labels_of table) i ≡ Some (OfThread t) → ⊥
  no_thread i t h = both_ways (is_some (kept_of table (OfThread t))) refl (label_kept table i (OfThread t) h)

  -- nor is a slot with a number past the threads'
  pub slot_behind : (n t : ℕ) → length threads ≤ n → n < length threads + length (labels_of table) → slot_in threads table n ≡ OfThread t → ⊥
  slot_behind n t le within e = ⊎_elim
      (λ r. no_thread (n - length threads) t (r.2 ∙ ap Some (sym (slot_label n r.0 le r.2) ∙ e)))
      (λ r. absurd (omega (arith, r.0, le, within)))
      (slice_get_cases (labels_of table) (n - length threads)).1

  -- a thread takes the clock of another
  pub join_thread : (t slot : ℕ) (th target new : Thread) → slice_get threads t ≡ Some th → slice_get threads slot ≡ Some target → (copy : Clock) → ((u : ℕ) → number_at copy u ≡ number_at th.clock u) → TakesClock target new (number_at copy) → JoinsClock (state_in threads table) (state_in (slice_set threads slot new) table) t (slot_in threads table slot)
  join_thread t slot th target new at at_slot copy copied takes =
      subst (JoinsClock (state_in threads table) (state_in (slice_set threads slot new) table) t) (sym (slot_thread slot (slice_get_within threads slot target at_slot)))
      (record { clock = clocks; actor = λ r. refl })
    where
      go : (v u : ℕ) → (slot ≡ v) ⊎ (slot ≡ v → ⊥) → (if slot == v then number_at new.clock u else thread_clock (slice_get threads v) u) ≡ (if v == slot then max (thread_clock (slice_get threads v) u) (thread_clock (slice_get threads t) u) else thread_clock (slice_get threads v) u)
      go v u (inl e) =
          cond-true (slot == v) _ _ (eq-eqb slot v e)
          ∙ omega (arith, takes.clock u, copied u, ap (λ o. thread_clock o u) at, ap (λ o. thread_clock o u) at_slot, ap (λ m. thread_clock (slice_get threads m) u) e)
          ∙ sym (cond-true (v == slot) _ _ (eq-eqb v slot (sym e)))
      go v u (inr ne) = cond-false (slot == v) _ _ (ne_eqb slot v ne) ∙ sym (cond-false (v == slot) _ _ (ne_eqb v slot (λ e. ne (sym e))))

      clocks : (r : Slot) (u : ℕ) → clock_in (slice_set threads slot new) table r u ≡ (if same_slot r (OfThread slot) then max (clock_in threads table r u) (thread_clock (slice_get threads t) u) else clock_in threads table r u)
      clocks (OfThread v) u = written threads slot target new at_slot (λ o. thread_clock o u) v ∙ go v u (cases_eq slot v)
      clocks (LastWrite x) u = refl
      clocks (LastRead x v) u = refl
      clocks (LastRelease l) u = refl

  -- or what is kept of another slot
  pub join_kept : (t slot : ℕ) (label : Slot) (th : Thread) (new : Table) → slice_get threads t ≡ Some th → length threads ≤ slot → slice_get (labels_of table) (slot - length threads) ≡ Some label → (copy : Clock) → ((u : ℕ) → number_at copy u ≡ number_at th.clock u) → JoinsSlot table new label (number_at copy) → JoinsClock (state_in threads table) (state_in threads new) t (slot_in threads table slot)
  join_kept t slot label th new at beyond at_label copy copied joins =
      subst (JoinsClock (state_in threads table) (state_in threads new) t) (sym (slot_label slot label beyond at_label))
      (record { clock = clocks; actor = joins.thread })
    where
      kept : (r : Slot) (u : ℕ) → kept_clock (kept_of new r) u ≡ (if same_slot r label then max (kept_clock (kept_of table r) u) (thread_clock (slice_get threads t) u) else kept_clock (kept_of table r) u)
      kept r u = joins.clock r u ∙ ap (λ m. if same_slot r label then max (kept_clock (kept_of table r) u) m else kept_clock (kept_of table r) u) (copied u ∙ sym (ap (λ o. thread_clock o u) at))

      of_thread : (v : ℕ) → same_slot (OfThread v) label ≡ false
      of_thread v = ⊎_elim (λ e. absurd (no_thread (slot - length threads) v (at_label ∙ ap Some (sym (same_slot_is (OfThread v) label e))))) (λ e. e) (cases_Bool (same_slot (OfThread v) label))

      clocks : (r : Slot) (u : ℕ) → clock_in threads new r u ≡ (if same_slot r label then max (clock_in threads table r u) (thread_clock (slice_get threads t) u) else clock_in threads table r u)
      clocks (OfThread v) u = sym (cond-false (same_slot (OfThread v) label) _ _ (of_thread v))
      clocks (LastWrite x) u = kept (LastWrite x) u
      clocks (LastRead x v) u = kept (LastRead x v) u
      clocks (LastRelease l) u = kept (LastRelease l) u

-- the block that the clock closes, in the words of the threads
pub closes_back : (c : Clocks) (t : ℕ) (s : Slot) (u : ℕ) → ((s ≡ OfThread u) × IsClosedBy (thread_begin (slice_get c.threads.items u)) (thread_clock (slice_get c.threads.items t))) ↔ ClosesBack c t s u
closes_back c t s u = (
  λ p. let q = closed_to (thread_begin (slice_get c.threads.items u)) (thread_clock (slice_get c.threads.items t)) p.1 in record { slot = p.0; inside = q.0; behind = q.1 },
  λ b. (b.slot, closed_from (thread_begin (slice_get c.threads.items u)) (thread_clock (slice_get c.threads.items t)) b.inside b.behind),
)

-- a block is closed
pub closes_block : (old new : Clocks) (t : ℕ) (th after : Thread) → slice_get old.threads.items t ≡ Some th → new.threads.items ≡ slice_set old.threads.items t after → new.table ≡ old.table → is_spent new ≡ false → closed_by new ≡ closed_by old
    → after.clock ≡ th.clock → after.begin ≡ None → after.begins ≡ th.begins → after.acted ≡ true → ClosesBlock old new t
closes_block old new t th after at items table unspent closed clock begin begins acted = record {
  unspent = unspent;
  closed = closed;
  in_block = λ u. at_thread (λ o. is_some (thread_begin o)) u ∙ ap (λ b. if t == u then is_some b else is_some (thread_begin (slice_get old.threads.items u))) begin;
  acted = λ u. at_thread thread_acted u ∙ ap (λ b. if t == u then b else thread_acted (slice_get old.threads.items u)) acted;
  begins = λ u. at_thread thread_begins u ∙ same thread_begins u (begins ∙ sym (ap thread_begins at));
  begin_clock = λ u v. at_thread (λ o. number_in (thread_begin o) v) u ∙ ap (λ b. if t == u then number_in b v else number_in (thread_begin (slice_get old.threads.items u)) v) begin;
  clock = clocks;
  actor = λ r. ap (λ (a : Table). kept_thread (kept_of a r)) table;
  slots = record { threads = ap length items ∙ kept_length; slots = slots; slot = λ n. slots_same n };
}
  where
    at_thread : {X : Type 0} (f : Option Thread → X) (u : ℕ) → f (slice_get new.threads.items u) ≡ (if t == u then f (Some after) else f (slice_get old.threads.items u))
    at_thread f u = ap (λ xs. f (slice_get xs u)) items ∙ written old.threads.items t th after at f u

    same : {X : Type 0} (f : Option Thread → X) (u : ℕ) → f (Some after) ≡ f (slice_get old.threads.items t) → (if t == u then f (Some after) else f (slice_get old.threads.items u)) ≡ f (slice_get old.threads.items u)
    same f u h =
        ⊎_elim
        (λ e. cond-true (t == u) _ _ (eq-eqb t u e) ∙ h ∙ ap (λ m. f (slice_get old.threads.items m)) e)
        (λ ne. cond-false (t == u) _ _ (ne_eqb t u ne))
        (cases_eq t u)

    clocks : (r : Slot) (u : ℕ) → (state_of new).clock r u ≡ (state_of old).clock r u
    clocks (OfThread v) u = at_thread (λ o. thread_clock o u) v ∙ same (λ o. thread_clock o u) v (ap (λ c. number_at c u) clock ∙ sym (ap (λ o. thread_clock o u) at))
    clocks (LastWrite x) u = ap (λ (a : Table). kept_clock (kept_of a (LastWrite x)) u) table
    clocks (LastRead x v) u = ap (λ (a : Table). kept_clock (kept_of a (LastRead x v)) u) table
    clocks (LastRelease l) u = ap (λ (a : Table). kept_clock (kept_of a (LastRelease l)) u) table

    kept_length : length (slice_set old.threads.items t after) ≡ length old.threads.items
    kept_length = length-set old.threads.items t after

    slots : length new.threads.items + length (labels_of new.table) ≡ length old.threads.items + length (labels_of old.table)
    slots = omega (arith, ap length items ∙ kept_length, ap (λ (a : Table). length (labels_of a)) table)

    slots_same : (n : ℕ) → slot_at new n ≡ slot_at old n
    slots_same n = ap (λ m. if nat_lt n m then OfThread n else slot_or n (slice_get (labels_of new.table) (n - m))) (ap length items ∙ kept_length) ∙ ap (λ (a : Table). slot_in old.threads.items a n) table

-- a thread has acted
pub finishes : (old new : Clocks) (t : ℕ) (th after : Thread) → slice_get old.threads.items t ≡ Some th → new.threads.items ≡ slice_set old.threads.items t after → new.table ≡ old.table → is_spent new ≡ false → closed_by new ≡ closed_by old
    → after.clock ≡ th.clock → after.begin ≡ th.begin → after.begins ≡ th.begins → after.acted ≡ true → IsFinished old new t
finishes old new t th after at items table unspent closed clock begin begins acted = record {
  spent = unspent;
  closed = closed;
  clock = clocks;
  actor = λ r. ap (λ (a : Table). kept_thread (kept_of a r)) table;
  begin_clock = λ u v. same (λ o. number_in (thread_begin o) v) u (ap (λ b. number_in b v) begin);
  in_block = λ u. same (λ o. is_some (thread_begin o)) u (ap is_some begin);
  begins = λ u. same thread_begins u begins;
  acted = λ u. at_thread thread_acted u ∙ ap (λ b. if t == u then b else thread_acted (slice_get old.threads.items u)) acted;
}
  where
    at_thread : {X : Type 0} (f : Option Thread → X) (u : ℕ) → f (slice_get new.threads.items u) ≡ (if t == u then f (Some after) else f (slice_get old.threads.items u))
    at_thread f u = ap (λ xs. f (slice_get xs u)) items ∙ written old.threads.items t th after at f u

    same : {X : Type 0} (f : Option Thread → X) (u : ℕ) → f (Some after) ≡ f (Some th) → f (slice_get new.threads.items u) ≡ f (slice_get old.threads.items u)
    same f u h =
        at_thread f u
        ∙ ⊎_elim
        (λ e. cond-true (t == u) _ _ (eq-eqb t u e) ∙ h ∙ sym (ap f at) ∙ ap (λ m. f (slice_get old.threads.items m)) e)
        (λ ne. cond-false (t == u) _ _ (ne_eqb t u ne))
        (cases_eq t u)

    clocks : (r : Slot) (u : ℕ) → (state_of new).clock r u ≡ (state_of old).clock r u
    clocks (OfThread v) u = same (λ o. thread_clock o u) v (ap (λ c. number_at c u) clock)
    clocks (LastWrite x) u = ap (λ (a : Table). kept_clock (kept_of a (LastWrite x)) u) table
    clocks (LastRead x v) u = ap (λ (a : Table). kept_clock (kept_of a (LastRead x v)) u) table
    clocks (LastRelease l) u = ap (λ (a : Table). kept_clock (kept_of a (LastRelease l)) u) table

pub unlabelled : (table : Table) (i : ℕ) (s : Slot) → slice_get (labels_of table) i ≡ Some s → None ≡ kept_of table s → ⊥
unlabelled table i s h none = both_ways (is_some (kept_of table s)) (sym (ap is_some none)) (label_kept table i s h)

-- a thread in a block has a number
pub inside_within : (threads : List Thread) (t : ℕ) → is_some (thread_begin (slice_get threads t)) ≡ true → t < length threads
inside_within threads t inside = go (slice_get threads t) refl inside
  where
    go : (o : Option Thread) → slice_get threads t ≡ o → is_some (thread_begin o) ≡ true → t < length threads
    go None e h = cc
    go (Some p) e h = slice_get_within threads t p e
