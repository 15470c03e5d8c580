-- What is kept of a trace, after one more event.
use Rattle.std.proofs.Common.{◌≡◌, ◌≢◌, ◌⊎◌, inl, inr, ⊎_elim, ℕ, zero, suc, ◌+◌, ◌<◌, ◌≤◌, List, [], ◌∷◌, ◌++◌, length, Option, None, Some, refl, sym, ap, ap₂, ◌∙◌, subst, le_refl, arith}
use Rattle.std.specs.Prelude.{◌==◌, ◌&&◌, nat_lt, Bool, true, false, if◌then◌else◌, Contains}
use Rattle.std.proofs.lemmas.Bool.{cases_Bool, cases_eq, eq-eqb, ne_eqb, lt-leb, ltb-false, cond-true, cond-false, and_left, and_right, and_from}
use Rattle.std.proofs.lemmas.Option.{same_Some}
use Rattle.aero_model.specs.declared.numbered.Numbered.{Numbered}
use Rattle.aero_model.specs.Blocks.{depth, opens, closes, blocks}
use Rattle.aero_model.specs.Cycle.{HasTellingCycle}
use Rattle.aero_model.specs.Shape.{is_release_of}
use Rattle.aero_model.proofs.Elements.{none_in}
use Rattle.aero_model.proofs.Stability.{Agree, agree_front}
use Rattle.aero_model.proofs.Telling.{telling_back}
use Rattle.aero_engine.specs.declared.slot.Slot.{Slot}
use Rattle.aero_engine.specs.declared.slot.Slot.TheVariants.{LastWrite, LastRead, LastRelease}
use Rattle.aero_engine.specs.Slots.{of_slot, is_read_of, is_write_of, last_event}
use Rattle.aero_engine.specs.Events.{thread_of}
use Rattle.aero_engine.proofs.LastEvents.{read_is, is_last, last_covers, last_new, last_kept}
use Rattle.aero_engine.proofs.LongerTraces.{slice_get-push, last_event_same}
use Rattle.aero_engine.proofs.OneMore.{length_more, opens_by, closes_by, begins_more, inside_more, acted_more}
use Rattle.aero_leads.specs.declared.last.Last.{Last}
use Rattle.aero_leads.specs.Leads.{Rows, is_led, IsUnled, AreFirst}
use Rattle.aero_leads.specs.Marks.{IsReadAt}
use Rattle.aero_leads.specs.Kept.{last, is_below, IsCovered}
use Rattle.aero_leads.specs.States.{State, IsLastAt, IsLastOf, AreReadsSince, IsStateOf}
use Rattle.aero_leads.proofs.FirstPlaces.{rows_same}

-- the reads of a variable after one more by thread t: that one, and some that cover those by other threads, but some to which nothing leads
pub record AreNoted (rows : Rows) (t n : ℕ) (old new : List Last) : Type 0 where
  pub latest : Contains new (last t (suc n))
  pub each : (l : Last) → Contains new l → Contains old l ⊎ (l ≡ last t (suc n))
  pub all : (l : Last) → Contains old l → l.thread ≢ t → IsCovered new l ⊎ ((w : ℕ) → is_below (rows l.thread w) l.count ≡ false)

-- the reads of variable x after event e
abbrev pub AreReadsAfter : State → Numbered → ℕ → List Last → Type 0
AreReadsAfter old e x new =
    ((is_read_of x e.what ≡ false) × (new ≡ (if is_write_of x e.what then [] else old.reads x)))
    ⊎ ((is_write_of x e.what ≡ false) × (is_read_of x e.what ≡ true) × AreNoted old.rows e.thread old.now (old.reads x) new)

-- after event e, which opens a block or ends one or neither
pub record IsAfter (old new : State) (e : Numbered) (up down : Bool) : Type 0 where
  pub write : (x : ℕ) → new.write x ≡ (if is_write_of x e.what then last e.thread (suc old.now) else old.write x)
  pub reads : (x : ℕ) → AreReadsAfter old e x (new.reads x)
  pub release : (l : ℕ) → new.release l ≡ (if is_release_of l e.what then last e.thread (suc old.now) else old.release l)
  pub now : new.now ≡ suc old.now
  pub acted : (t : ℕ) → new.acted t ≡ (if e.thread == t then true else old.acted t)
  pub begins : (t : ℕ) → new.begins t ≡ (if (e.thread == t) && up then old.begins t + 1 else old.begins t)
  pub in_block : (t : ℕ) → new.in_block t ≡ (if (e.thread == t) && up then true else if (e.thread == t) && down then false else old.in_block t)

unled : (r : Option ℕ) (q : ℕ) → is_below r (suc q) ≡ false → is_led r q ≡ false
unled None q h = refl
unled (Some p) q h = lt-leb p q (omega (arith, ltb-false p (suc q) h))

module _ (old : State) (before : List Numbered) (e : Numbered) (stands : IsStateOf old before) where
  abbrev more : List Numbered
  more = before ++ e ∷ []

  abbrev n : ℕ
  n = length before

  pub agree : Agree n before more
  agree = agree_front n before (e ∷ []) (le_refl n)

  pub first : AreFirst more n old.rows
  first = rows_same n before more agree old.rows stands.first

  pub none : ¬ HasTellingCycle more n
  none c = stands.none (telling_back before (e ∷ []) n (le_refl n) c)

  -- the last event of a slot
  kept_last : (s : Slot) → of_slot s e ≡ false → last_event more (length more) s ≡ last_event before n s
  kept_last s b = ap (λ m. last_event more m s) (sym (length_more before e)) ∙ last_kept (of_slot s) more n e (slice_get-push before e) b ∙ sym (last_event_same n before more agree s)

  new_last : (s : Slot) → of_slot s e ≡ true → last_event more (length more) s ≡ Some n
  new_last s b = ap (λ m. last_event more m s) (sym (length_more before e)) ∙ last_new (of_slot s) more n e (slice_get-push before e) b

  carried : (s : Slot) (t c : ℕ) → of_slot s e ≡ false → IsLastAt before s t c → IsLastAt more s t c
  carried s t zero b h = kept_last s b ∙ h
  carried s t (suc p) b (h, by) = (kept_last s b ∙ h, ap thread_of (sym (agree.same p (is_last (of_slot s) before n p h).below)) ∙ by)

  last_pushed : (s : Slot) (l new : Last) → IsLastOf before s l → new ≡ (if of_slot s e then last e.thread (suc old.now) else l) → IsLastOf more s new
  last_pushed s l new h is = go (cases_Bool (of_slot s e))
    where
      go : (of_slot s e ≡ true) ⊎ (of_slot s e ≡ false) → IsLastOf more s new
      go (inl b) =
          let now : new ≡ last e.thread (suc n) = is ∙ cond-true (of_slot s e) _ _ b ∙ ap (λ m. last e.thread (suc m)) stands.now in
          subst (IsLastOf more s) (sym now) (new_last s b, ap thread_of (slice_get-push before e))
      go (inr b) = subst (IsLastOf more s) (sym (is ∙ cond-false (of_slot s e) _ _ b)) (carried s l.thread l.count b h)

  -- a read before the event
  pub read_on : (m : ℕ) → n ≤ m → (x u p : ℕ) → IsReadAt before n x u p → IsReadAt more m x u p
  read_on m le x u p i = record { below = omega (arith, i.below, le); event = i.event; event_at = sym (agree.same p i.below) ∙ i.event_at; thread = i.thread; reads = i.reads }

  -- the reads of a variable, where nothing comes to lead to what nothing led to
  module _ (rows : Rows) (still : (u q : ℕ) → q < n → IsUnled old.rows u q → IsUnled rows u q) where
    reads_pushed : (x : ℕ) (new : List Last) → AreReadsAfter old e x new → AreReadsSince more rows x new
    reads_pushed x new either = ⊎_elim (λ by. go by.0 by.1 (cases_Bool (is_write_of x e.what))) (λ by. read by.0 by.1 (subst (λ m. AreNoted old.rows e.thread m (old.reads x) new) stands.now by.2)) either
      where
        was : AreReadsSince before old.rows x (old.reads x)
        was = stands.reads x

        other_read : (u : ℕ) → e.thread ≢ u → of_slot (LastRead x u) e ≡ false
        other_read u ne = and_left (e.thread == u) (is_read_of x e.what) (ne_eqb e.thread u ne)

        no_read : (u : ℕ) → is_read_of x e.what ≡ false → of_slot (LastRead x u) e ≡ false
        no_read u b = and_right (e.thread == u) (is_read_of x e.what) b

        still_read : (l : Last) → Contains (old.reads x) l → (p : ℕ) × (l.count ≡ suc p) × IsReadAt more (length more) x l.thread p
        still_read l a = let i = was.each l a in (i.0, i.1, read_on (length more) (omega (arith, length_more before e)) x l.thread i.0 i.2)

        -- a last read before the event is a kept one, or nothing leads to it
        before_all : (u q : ℕ) → last_event before n (LastRead x u) ≡ Some q → ((p : ℕ) → last_event before n (LastWrite x) ≡ Some p → p < q) → Contains (old.reads x) (last u (suc q)) ⊎ IsUnled rows u q
        before_all u q at after = ⊎_elim (λ a. inl a) (λ k. inr (still u q (is_last (of_slot (LastRead x u)) before n q at).below k)) (was.all u q at after)

        written : is_write_of x e.what ≡ true → AreReadsSince more rows x []
        written b = record {
          each = λ l a. absurd (none_in a);
          all = λ u q at after.
              let less = after n (new_last (LastWrite x) b) in
              let i = is_last (of_slot (LastRead x u)) more (length more) q at in
              absurd (omega (arith, less, i.below, length_more before e));
        }

        -- a read that is kept and is no earlier than a last one is that one
        covering : (u q : ℕ) → e.thread ≢ u → last_event before n (LastRead x u) ≡ Some q → AreNoted old.rows e.thread n (old.reads x) new → IsCovered new (last u (suc q)) → Contains new (last u (suc q))
        covering u q ne at noted c = by (noted.each c.0 c.1)
          where
            by : Contains (old.reads x) c.0 ⊎ (c.0 ≡ last e.thread (suc n)) → Contains new (last u (suc q))
            by (inr same) = absurd (ne (sym (ap (λ (l : Last). l.thread) same) ∙ c.2))
            by (inl a) =
                let k = c.0 in
                let r = was.each k a in
                let i : IsReadAt before n x k.thread r.0 = r.2 in
                let v = last_covers (of_slot (LastRead x u)) before n r.0 i.event i.event_at (and_from _ _ (eq-eqb i.event.thread u (i.thread ∙ c.2)) (ap (is_read_of x) i.reads ∙ eq-eqb x x refl)) i.below in
                let place : q ≡ v.0 = same_Some q v.0 (sym at ∙ v.1) in
                let count : k.count ≡ suc q = omega (arith, c.3, r.1, v.2, place) in
                subst (λ (l : Last). Contains new l) (ap₂ last c.2 count) c.1

        read : is_write_of x e.what ≡ false → is_read_of x e.what ≡ true → AreNoted old.rows e.thread n (old.reads x) new → AreReadsSince more rows x new
        read quiet b noted = record {
          each = λ l a. ⊎_elim
              (λ m. still_read l m)
              (λ same. (n, ap (λ (j : Last). j.count) same, subst (λ (j : Last). IsReadAt more (length more) x j.thread n) (sym same) read_now))
              (noted.each l a);
          all = λ u q at after. ⊎_elim
              (λ same.
              let place : n ≡ q = same_Some n q (sym (new_last (LastRead x u) (and_from _ _ (eq-eqb e.thread u same) b)) ∙ at) in
              inl (subst (λ (l : Last). Contains new l) (ap₂ (λ (v m : ℕ). last v (suc m)) same place) noted.latest))
              (λ ne.
              let at_before : last_event before n (LastRead x u) ≡ Some q = sym (kept_last (LastRead x u) (other_read u ne)) ∙ at in
              ⊎_elim
              (λ a. ⊎_elim
              (λ c. inl (covering u q ne at_before noted c))
              (λ none. inr (still u q (is_last (of_slot (LastRead x u)) before n q at_before).below (λ w. unled (old.rows u w) q (none w))))
              (noted.all (last u (suc q)) a (λ h. ne (sym h))))
              (λ k. inr k)
              (before_all u q at_before (λ p h. after p (kept_last (LastWrite x) quiet ∙ h))))
              (cases_eq e.thread u);
        }
          where
            read_now : IsReadAt more (length more) x e.thread n
            read_now = record { below = omega (arith, length_more before e); event = e; event_at = slice_get-push before e; thread = refl; reads = read_is x e.what b }

        neither : is_write_of x e.what ≡ false → is_read_of x e.what ≡ false → AreReadsSince more rows x (old.reads x)
        neither quiet b = record {
          each = still_read;
          all = λ u q at after. before_all u q (sym (kept_last (LastRead x u) (no_read u b)) ∙ at) (λ p h. after p (kept_last (LastWrite x) quiet ∙ h));
        }

        go : is_read_of x e.what ≡ false → new ≡ (if is_write_of x e.what then [] else old.reads x) → (is_write_of x e.what ≡ true) ⊎ (is_write_of x e.what ≡ false) → AreReadsSince more rows x new
        go b is (inl a) = subst (AreReadsSince more rows x) (sym (is ∙ cond-true (is_write_of x e.what) _ _ a)) (written a)
        go b is (inr a) = subst (AreReadsSince more rows x) (sym (is ∙ cond-false (is_write_of x e.what) _ _ a)) (neither a b)

  -- the threads' blocks
  module _ (new : State) (up down : Bool) (opening : opens more e.thread n ≡ up) (closing : closes more e.thread n ≡ down) (after : IsAfter old new e up down) where
    -- with rows that are right, and no telling cycle, all is right
    pub stands_after : ((u q : ℕ) → q < n → IsUnled old.rows u q → IsUnled new.rows u q) → AreFirst more (suc n) new.rows → ¬ HasTellingCycle more (suc n) → IsStateOf new more
    stands_after still rows no_cycle = record {
      first = subst (λ m. AreFirst more m new.rows) (length_more before e) rows;
      none = subst (λ m. ¬ HasTellingCycle more m) (length_more before e) no_cycle;
      write = λ x. last_pushed (LastWrite x) (old.write x) (new.write x) (stands.write x) (after.write x);
      reads = λ x. reads_pushed new.rows still x (new.reads x) (after.reads x);
      release = λ l. last_pushed (LastRelease l) (old.release l) (new.release l) (stands.release l) (after.release l);
      now = after.now ∙ ap suc stands.now ∙ length_more before e;
      acted = λ t. after.acted t ∙ acted_more before e t (old.acted t) (stands.acted t);
      begins = λ t. after.begins t ∙ begins_more before e t (old.begins t) ((e.thread == t) && up) (opens_by before e up opening t) (stands.begins t) ∙ ap (blocks more t) (length_more before e);
      in_block = λ t. after.in_block t ∙ inside_more before e t (old.in_block t) ((e.thread == t) && up) ((e.thread == t) && down) (opens_by before e up opening t) (closes_by before e down closing t) (stands.in_block t) ∙ ap (λ m. nat_lt 0 (depth more t m)) (length_more before e);
    }
