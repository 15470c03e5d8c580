-- Slot by slot, what the end of a block spreads.
use Rattle.std.proofs.Common.{◌≡◌, ◌≢◌, ◌⊎◌, inl, inr, ⊎_elim, ℕ, ◌-◌, ◌+◌, ◌<◌, ◌≤◌, max, List, Option, Some, None, length, refl, sym, ap, ◌∙◌, subst, arith}
use Rattle.std.specs.Prelude.{◌↔◌, Ok, nat_lt, true, false, slice_get, is_some}
use Rattle.std.proofs.lemmas.Bool.{cases_Bool, cases_lt, le-ltb, cond-true, cond-false}
use Rattle.std.proofs.lemmas.Option.{same_Some, slice_get_within}
use Rattle.aero_engine.specs.declared.slot.Slot.{Slot}
use Rattle.aero_engine.specs.declared.slot.Slot.TheVariants.{OfThread}
use Rattle.aero_access.specs.declared.clocks.Clocks.{Clocks}
use Rattle.aero_access.specs.LastClocks.{same_slot}
use Rattle.aero_access.specs.TableWords.{labels_of}
use Rattle.aero_access.specs.StateWords.{slot_or}
use Rattle.aero_access.specs.Standing.{clock_of, in_block_at, is_spent, closed_by, slot_at, IsBehind, ClosesBack, AbsorbsClock, Answers, HaveSameTests, slots_of, led_of, AreLed}
use Rattle.aero_access.proofs.KeptLists.{same_slot_is, same_slot_self}
use Rattle.aero_access.proofs.SlotNumbers.{slot_thread, slot_label, no_thread, inside_within}
use Rattle.aero_end.specs.Ends.{ClosesAtEnd, IsFirst, Stays, Joins, SpreadsAlong, SpreadsToAll}

-- a thread in a block goes by its own number
pub own_slot : (c : Clocks) (t : ℕ) → in_block_at c t ≡ true → slot_at c t ≡ OfThread t
own_slot c t inside = slot_thread c.threads.items c.table t (inside_within c.threads.items t inside)

-- and by no other
thread_number : (c : Clocks) (n u : ℕ) → slot_at c n ≡ OfThread u → n ≡ u
thread_number c n u is =
    ⊎_elim
    (λ l. let e = sym (slot_thread c.threads.items c.table n l) ∙ is in cc)
    (λ l. beyond l (slice_get (labels_of c.table) (n - length c.threads.items)) refl)
    (cases_lt n (length c.threads.items))
  where
    beyond : length c.threads.items ≤ n → (o : Option Slot) → slice_get (labels_of c.table) (n - length c.threads.items) ≡ o → n ≡ u
    beyond l None e =
        let same : OfThread n ≡ OfThread u = sym (cond-false (nat_lt n (length c.threads.items)) _ _ (le-ltb n (length c.threads.items) l) ∙ ap (slot_or n) e) ∙ is in
        cc
    beyond l (Some s) e = absurd (no_thread c.threads.items c.table (n - length c.threads.items) u (e ∙ ap Some (sym (slot_label c.threads.items c.table n s l e) ∙ is)))

pub spread_at_first : (c : Clocks) (t : ℕ) → closed_by c ≡ None → SpreadsAlong c c t (led_of c t) 0
spread_at_first c t closed = record {
  none = λ i u l. absurd (omega arith);
  joined = λ i n l. absurd (omega arith);
  clock = λ s. inl (λ u. refl);
  actor = λ s. refl;
  begin_clock = λ u v. refl;
  slots = record { threads = refl; slots = refl; slot = λ n. refl };
  spent = refl;
  closed = closed;
  led = refl;
}

-- once the list is at its end, all slots are done
pub spread_to_all : (old new : Clocks) (t k : ℕ) (ns : List ℕ) → (is_spent old ≡ false → AreLed old t ns) → SpreadsAlong old new t ns k → length ns ≤ k → SpreadsToAll old new t
spread_to_all old new t k ns led along end = record {
  spent = along.spent;
  closed = along.closed;
  spreads = λ unspent. record {
    none = λ u l c.
        let inside = inside_within old.threads.items u c.taken.inside in
        let r = (led unspent).all u l (subst (λ s. IsBehind old t (clock_of old s)) (sym (own_slot old u c.taken.inside)) c.given) in
        along.none r.0 u (omega (arith, end, slice_get_within ns r.0 u r.1)) r.1 c;
    joined = λ n l b.
        let r = (led unspent).all n l b in
        along.joined r.0 n (omega (arith, end, slice_get_within ns r.0 n r.1)) r.1;
    clock = along.clock;
    actor = along.actor;
    begin_clock = along.begin_clock;
    slots = along.slots;
    spent = along.spent;
    closed = along.closed;
  };
}

module _ (old now : Clocks) (t k n : ℕ) (ns : List ℕ) (inside : in_block_at old t ≡ true) (so_far : SpreadsAlong old now t ns k) (at : slice_get ns k ≡ Some n) where
  -- the clock of t itself stays
  own_clock : (u : ℕ) → clock_of now (OfThread t) u ≡ clock_of old (OfThread t) u
  own_clock u = ⊎_elim (λ h. h u) (λ h. omega (arith, h.1 u)) (so_far.clock (OfThread t))

  own_joins : Joins old now t (OfThread t)
  own_joins u = omega (arith, own_clock u)

  -- no clock falls
  above : (s : Slot) (u : ℕ) → clock_of old s u ≤ clock_of now s u
  above s u = ⊎_elim (λ h. omega (arith, h u)) (λ h. omega (arith, h.1 u)) (so_far.clock s)

  behind_now : (s : Slot) → IsBehind old t (clock_of old s) → IsBehind now t (clock_of now s)
  behind_now s h u = omega (arith, h u, above s u, so_far.begin_clock t u)

  behind_old : (s : Slot) → IsBehind now t (clock_of now s) → IsBehind old t (clock_of old s)
  behind_old s h = ⊎_elim (λ stays u. omega (arith, h u, stays u, so_far.begin_clock t u)) (λ b. b.0) (so_far.clock s)

  joined_now : (s : Slot) → Stays old now s ⊎ (IsBehind old t (clock_of old s) × Joins old now t s) → (u : ℕ) → max (clock_of now s u) (clock_of now (OfThread t) u) ≡ max (clock_of old s u) (clock_of old (OfThread t) u)
  joined_now s (inl h) u = omega (arith, h u, own_clock u)
  joined_now s (inr h) u = omega (arith, h.1 u, own_clock u)

  -- one more of the list
  one_more : {P : ℕ → Type 0} → ((i m : ℕ) → i < k → slice_get ns i ≡ Some m → P m) → P n → (i m : ℕ) → i < k + 1 → slice_get ns i ≡ Some m → P m
  one_more {P} before here i m l at_i = ⊎_elim
      (λ (less : i < k). before i m less at_i)
      (λ more. subst P (same_Some n m (sym at ∙ ap (slice_get ns) (let e : k ≡ i = omega arith in e) ∙ at_i)) here)
      (cases_lt i k)

  -- the slot is thread t itself
  pub passed_over : n ≡ t → SpreadsAlong old now t ns (k + 1)
  passed_over same = record {
    none = one_more {P = λ u. ¬ ClosesAtEnd old t u} so_far.none (λ c. c.other same);
    joined = one_more {P = λ m. Joins old now t (slot_at old m)} so_far.joined (subst (Joins old now t) (sym (ap (slot_at old) same ∙ own_slot old t inside)) own_joins);
    clock = so_far.clock;
    actor = so_far.actor;
    begin_clock = so_far.begin_clock;
    slots = so_far.slots;
    spent = so_far.spent;
    closed = so_far.closed;
    led = so_far.led;
  }

  -- or another, which the block leads to
  pub within : AreLed old t ns → n < slots_of now
  within led = omega (arith, (led.each k n at).0, so_far.slots.slots)

  pub leads_now : AreLed old t ns → IsBehind now t (clock_of now (slot_at now n))
  leads_now led = subst (λ s. IsBehind now t (clock_of now s)) (sym (so_far.slots.slot n)) (behind_now (slot_at old n) (led.each k n at).1)

  module _ (tests : HaveSameTests old now) (other : n ≢ t) (led : AreLed old t ns) where
    -- a lesser thread stood earlier in the list
    earlier : (v : ℕ) → v < n → ClosesAtEnd old t v → ⊥
    earlier v l c =
        let thread = inside_within old.threads.items v c.taken.inside in
        let r = led.all v (omega (arith, thread)) (subst (λ s. IsBehind old t (clock_of old s)) (sym (own_slot old v c.taken.inside)) c.given) in
        ⊎_elim
        (λ (less : r.0 < k). so_far.none r.0 v less r.1 c)
        (λ ge. ⊎_elim
        (λ (more : k < r.0). absurd (omega (arith, l, led.rising k r.0 n v more at r.1 thread)))
        (λ le. let e : k ≡ r.0 = omega (arith, ge, le) in let same : n ≡ v = same_Some n v (sym at ∙ ap (slice_get ns) e ∙ r.1) in absurd (omega (arith, l, same)))
        (cases_lt k r.0))
        (cases_lt r.0 k)

    -- the slot is a thread whose block closes
    pub first_found : (new : Clocks) (o : Option ℕ) (u : ℕ) → o ≡ Some u → ((v : ℕ) → (o ≡ Some v) ↔ ClosesBack now t (slot_at now n) v) → Answers now new (Ok o) → IsFirst old new t u
    first_found new o u is told answers =
        let back = (told u).0 is in
        let number : n ≡ u = thread_number now n u back.slot in
        record {
          closes = record {
            other = λ e. other (number ∙ e);
            given = behind_old (OfThread u) (subst (λ s. IsBehind now t (clock_of now s)) back.slot (leads_now led));
            taken = record {
              slot = refl;
              inside = sym (tests.in_block u) ∙ back.inside;
              behind = λ v. omega (arith, back.behind v, own_clock v, so_far.begin_clock u v);
            };
          };
          first = λ v l c. earlier v (omega (arith, l, number)) c;
          was_unspent = sym so_far.spent ∙ ⊎_elim (λ s. let z : false ≡ true = answers.spent s in cc) (λ s. s) (cases_Bool (is_spent now));
          unspent = answers.unspent;
          closed = answers.closed ∙ is;
        }

    -- or has taken t's clock
    taken_in : (new : Clocks) → ((v : ℕ) → (None ≡ Some v) ↔ ClosesBack now t (slot_at now n) v) → Answers now new (Ok None) → AbsorbsClock now new t (slot_at now n) → led_of new t ≡ led_of now t → SpreadsAlong old new t ns (k + 1)
    taken_in new told answers absorbed still = record {
      none = one_more {P = λ u. ¬ ClosesAtEnd old t u} so_far.none closes_not;
      joined = one_more {P = λ m. Joins old new t (slot_at old m)} (λ i m l at_i. joins_on (slot_at old m) (so_far.joined i m l at_i)) joins_at;
      clock = λ s. ⊎_elim (at_slot s) (elsewhere s) (cases_Bool (same_slot s (slot_at now n)));
      actor = λ s. absorbed.actor s ∙ so_far.actor s;
      begin_clock = λ u v. absorbed.begin_clock u v ∙ so_far.begin_clock u v;
      slots = record {
        threads = absorbed.slots.threads ∙ so_far.slots.threads;
        slots = absorbed.slots.slots ∙ so_far.slots.slots;
        slot = λ n. absorbed.slots.slot n ∙ so_far.slots.slot n;
      };
      spent = answers.unspent ∙ sym (⊎_elim (λ s. let z : false ≡ true = answers.spent s in cc) (λ s. s) (cases_Bool (is_spent now))) ∙ so_far.spent;
      closed = answers.closed;
      led = still ∙ so_far.led;
    }
      where
        closes_not : ClosesAtEnd old t n → ⊥
        closes_not c =
            let e = (told n).1 record {
              slot = so_far.slots.slot n ∙ own_slot old n c.taken.inside;
              inside = tests.in_block n ∙ c.taken.inside;
              behind = λ v. omega (arith, c.taken.behind v, own_clock v, so_far.begin_clock n v);
            } in
            cc

        joins_here : (s : Slot) → same_slot s (slot_at now n) ≡ true → Joins old new t s
        joins_here s b u = absorbed.clock s u ∙ cond-true (same_slot s (slot_at now n)) _ _ b ∙ joined_now s (so_far.clock s) u

        stays_here : (s : Slot) → same_slot s (slot_at now n) ≡ false → (u : ℕ) → clock_of new s u ≡ clock_of now s u
        stays_here s b u = absorbed.clock s u ∙ cond-false (same_slot s (slot_at now n)) _ _ b

        joins_on : (s : Slot) → Joins old now t s → Joins old new t s
        joins_on s j = ⊎_elim (joins_here s) (λ b u. stays_here s b u ∙ j u) (cases_Bool (same_slot s (slot_at now n)))

        joins_at : Joins old new t (slot_at old n)
        joins_at = joins_here (slot_at old n) (ap (λ s. same_slot s (slot_at now n)) (sym (so_far.slots.slot n)) ∙ same_slot_self (slot_at now n))

        at_slot : (s : Slot) → same_slot s (slot_at now n) ≡ true → Stays old new s ⊎ (IsBehind old t (clock_of old s) × Joins old new t s)
        at_slot s b = inr (behind_old s (subst (λ r. IsBehind now t (clock_of now r)) (sym (same_slot_is s (slot_at now n) b)) (leads_now led)), joins_here s b)

        elsewhere : (s : Slot) → same_slot s (slot_at now n) ≡ false → Stays old new s ⊎ (IsBehind old t (clock_of old s) × Joins old new t s)
        elsewhere s b = ⊎_elim (λ h. inl (λ u. stays_here s b u ∙ h u)) (λ h. inr (h.0, λ u. stays_here s b u ∙ h.1 u)) (so_far.clock s)

    pub taken : (new : Clocks) (o : Option ℕ) → false ≡ is_some o → ((v : ℕ) → (o ≡ Some v) ↔ ClosesBack now t (slot_at now n) v) → Answers now new (Ok o) → (o ≡ None → AbsorbsClock now new t (slot_at now n)) → (o ≡ None → led_of new t ≡ led_of now t) → SpreadsAlong old new t ns (k + 1)
    taken new None none told answers absorbed still = taken_in new told answers (absorbed refl) (still refl)
    taken new (Some u) none told answers absorbed still = cc
