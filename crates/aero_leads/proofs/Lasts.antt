-- The marks of the events that are kept, and what leads to them.
use Rattle.std.proofs.Common.{◌≡◌, ◌≢◌, ◌⊎◌, inl, inr, ⊎_elim, ℕ, zero, suc, ◌<◌, List, [], ◌∷◌, ◌++◌, length, Option, Some, None, refl, sym, ap, ap₂, ◌∙◌, subst, le_refl, arith}
use Rattle.std.specs.Prelude.{◌==◌, ◌&&◌, ◌||◌, not, Bool, true, false, if◌then◌else◌, slice_get, Contains}
use Rattle.std.proofs.lemmas.Bool.{cases_eq, cases_lt, both_ways, and_parts, eqb-true, eq-eqb, ne_eqb, lt-ltb, le-ltb, le-leb, lt-leb, cond-true, cond-false}
use Rattle.std.proofs.lemmas.List.Elements.{Contains-append_left, Contains-append_right, Contains-append_cases}
use Rattle.std.proofs.lemmas.Option.{same_Some}
use Rattle.aero_model.specs.declared.numbered.Numbered.{Numbered}
use Rattle.aero_engine.specs.declared.slot.Slot.{Slot}
use Rattle.aero_engine.specs.declared.slot.Slot.TheVariants.{LastWrite, LastRead}
use Rattle.aero_model.specs.Blocks.{blocks, Block}
use Rattle.aero_model.proofs.Elements.{none_in, here, there, first_or_rest}
use Rattle.aero_model.proofs.Walks.{reaches_from_leads}
use Rattle.aero_engine.specs.Slots.{of_slot, is_read_of, last_event}
use Rattle.aero_engine.specs.Events.{thread_of}
use Rattle.aero_engine.proofs.LastEvents.{is_last, to_thread}
use Rattle.aero_engine.proofs.LongerTraces.{last_event_same}
use Rattle.aero_leads.specs.declared.last.Last.{Last}
use Rattle.aero_leads.specs.Leads.{Rows, is_led, IsUnled}
use Rattle.aero_leads.specs.Marks.{Mark, mark, IsPassed, IfOther, nobodys, its_own, other, IsReadAt, AreReads}
use Rattle.aero_leads.specs.Steps.{led_by}
use Rattle.aero_leads.specs.Kept.{last, is_below, leads_to, leads_to_any}
use Rattle.aero_leads.specs.States.{State, IsLastAt, IsLastOf, AreReadsSince, IsStateOf}
use Rattle.aero_leads.proofs.FirstPlaces.{reaches_led}
use Rattle.aero_leads.proofs.StateSteps.{agree, first, read_on}

-- the mark of an event of another thread than t
abbrev pub mark_at : ℕ → ℕ → ℕ → List Mark
mark_at t u zero = []
mark_at t u (suc p) = if u == t then [] else mark u p ∷ []

abbrev pub marks_of : ℕ → List Last → List Mark
marks_of t [] = []
marks_of t (l ∷ ls) = mark_at t l.thread l.count ++ marks_of t ls

pub below_led : (r : Option ℕ) (p : ℕ) → is_below r (suc p) ≡ is_led r p
below_led None p = refl
below_led (Some q) p = ⊎_elim (λ h. lt-ltb q (suc p) h ∙ sym (le-leb q p (omega (arith, h)))) (λ h. le-ltb q (suc p) h ∙ sym (lt-leb q p (omega (arith, h)))) (cases_lt q (suc p))

below_none : (r : Option ℕ) → is_below r 0 ≡ false
below_none None = refl
below_none (Some q) = le-ltb q 0 (omega arith)

led_append : (rows : Rows) (w : ℕ) (ms ns : List Mark) → led_by rows w (ms ++ ns) ≡ (led_by rows w ms || led_by rows w ns)
led_append rows w [] ns = refl
led_append rows w (m ∷ ms) ns = ap (λ b. is_led (rows m.thread w) m.place || b) (led_append rows w ms ns) ∙ assoc (is_led (rows m.thread w) m.place) (led_by rows w ms) (led_by rows w ns)
  where
    assoc : (a b c : Bool) → (a || (b || c)) ≡ ((a || b) || c)
    assoc true b c = refl
    assoc false b c = refl

led_at : (rows : Rows) (t w u c : ℕ) → leads_to rows t w (last u c) ≡ led_by rows w (mark_at t u c)
led_at rows t w u zero = ap (λ b. not (u == t) && b) (below_none (rows u w)) ∙ never (not (u == t))
  where
    never : (b : Bool) → (b && false) ≡ false
    never true = refl
    never false = refl
led_at rows t w u (suc p) = go (u == t)
  where
    go : (b : Bool) → (not b && is_below (rows u w) (suc p)) ≡ led_by rows w (if b then [] else mark u p ∷ [])
    go true = refl
    go false = below_led (rows u w) p ∙ stays (is_led (rows u w) p)
      where
        stays : (b : Bool) → b ≡ (b || false)
        stays true = refl
        stays false = refl

pub led_marks : (rows : Rows) (t w : ℕ) (ls : List Last) → leads_to_any rows t w ls ≡ led_by rows w (marks_of t ls)
led_marks rows t w [] = refl
led_marks rows t w (l ∷ ls) = ap₂ (λ a b. a || b) (led_at rows t w l.thread l.count) (led_marks rows t w ls) ∙ sym (led_append rows w (mark_at t l.thread l.count) (marks_of t ls))

among_at : (t u c : ℕ) (m : Mark) → Contains (mark_at t u c) m → (u ≢ t) × (m.thread ≡ u) × (c ≡ suc m.place)
among_at t u zero m a = absurd (none_in a)
among_at t u (suc p) m a = go (u == t) refl a
  where
    go : (b : Bool) → u == t ≡ b → Contains (if b then [] else mark u p ∷ []) m → (u ≢ t) × (m.thread ≡ u) × (suc p ≡ suc m.place)
    go true e a = absurd (none_in a)
    go false e a = ⊎_elim
        (λ same. ((λ h. both_ways (u == t) e (eq-eqb u t h)), ap (λ (k : Mark). k.thread) same, ap (λ (k : Mark). suc k.place) (sym same)))
        (λ more. absurd (none_in more))
        (first_or_rest (mark u p) [] a)

pub among_marks : (t : ℕ) (ls : List Last) (m : Mark) → Contains (marks_of t ls) m → (l : Last) × Contains ls l × (m.thread ≡ l.thread) × (l.count ≡ suc m.place) × (m.thread ≢ t)
among_marks t [] m a = absurd (none_in a)
among_marks t (l ∷ ls) m a = ⊎_elim
    (λ k. let r = among_at t l.thread l.count m k in (l, here ls, r.1, r.2, λ h. r.0 (sym r.1 ∙ h)))
    (λ k. let r = among_marks t ls m k in (r.0, there l ls r.1, r.2, r.3, r.4))
    (Contains-append_cases (mark_at t l.thread l.count) (marks_of t ls) m a)

pub marks_among : (t u q : ℕ) (ls : List Last) → u ≢ t → Contains ls (last u (suc q)) → Contains (marks_of t ls) (mark u q)
marks_among t u q [] ne a = absurd (none_in a)
marks_among t u q (l ∷ ls) ne a = ⊎_elim
    (λ same. Contains-append_left (mark_at t l.thread l.count) (marks_of t ls) (mark u q)
    (subst (λ (k : Last). Contains (mark_at t k.thread k.count) (mark u q)) same (subst (λ ms. Contains ms (mark u q)) (sym (cond-false (u == t) _ _ (ne_eqb u t ne))) (here []))))
    (λ more. Contains-append_right (mark_at t l.thread l.count) (marks_of t ls) (mark u q) (marks_among t u q ls ne more))
    (first_or_rest l ls a)

module _ (old : State) (before : List Numbered) (e : Numbered) (stands : IsStateOf old before) where
  abbrev more : List Numbered
  more = before ++ e ∷ []

  abbrev n : ℕ
  n = length before

  same_last : (s : Slot) → last_event more n s ≡ last_event before n s
  same_last s = sym (last_event_same n before more (agree old before e stands) s)

  -- the slot's event, if it is of another thread
  pub if_other : (t : ℕ) (s : Slot) (l : Last) → IsLastOf before s l → IfOther more n t s (mark_at t l.thread l.count)
  if_other t s l h = go l.count h
    where
      event_is : (o : Option Numbered) → thread_of o ≡ Some l.thread → (f : Numbered) × (o ≡ Some f) × (f.thread ≡ l.thread)
      event_is None z = cc
      event_is (Some f) z = (f, refl, same_Some f.thread l.thread z)

      go : (c : ℕ) → IsLastAt before s l.thread c → IfOther more n t s (mark_at t l.thread c)
      go zero none = nobodys (same_last s ∙ none)
      go (suc p) (at, by) = at_place (cases_eq l.thread t)
        where
          i : p < n
          i = (is_last (of_slot s) before n p at).below

          f : (f : Numbered) × (slice_get more p ≡ Some f) × (f.thread ≡ l.thread)
          f = event_is (slice_get more p) (ap thread_of (sym ((agree old before e stands).same p i)) ∙ by)

          at_place : (l.thread ≡ t) ⊎ (l.thread ≢ t) → IfOther more n t s (mark_at t l.thread (suc p))
          at_place (inl k) = subst (IfOther more n t s) (sym (cond-true (l.thread == t) _ _ (eq-eqb l.thread t k))) (its_own p f.0 (same_last s ∙ at) f.1 (f.2 ∙ k))
          at_place (inr k) =
              subst (IfOther more n t s) (ap (λ u. mark u p ∷ []) f.2 ∙ sym (cond-false (l.thread == t) _ _ (ne_eqb l.thread t k)))
              (other p f.0 (same_last s ∙ at) f.1 (λ h. k (sym f.2 ∙ h)))

  -- the reads that are kept
  passed : (x u q : ℕ) → last_event more n (LastRead x u) ≡ Some q → IsUnled old.rows u q → IsPassed more n q
  passed x u q at unled w d leads =
      let i = is_last (of_slot (LastRead x u)) more n q at in
      let parts = and_parts (i.event.thread == u) (is_read_of x i.event.what) i.passed in
      both_ways (is_led (old.rows u w) q) (unled w)
      (reaches_led more n (Block w (blocks more w n)) u (old.rows u w) ((first old before e stands).is_open u w d) q
      (record { below = i.below; event = i.event; event_at = i.event_at; of_thread = to_thread u i.event (eqb-true i.event.thread u parts.0) })
      (reaches_from_leads more n (Block w (blocks more w n)) q leads))

  pub are_reads : (t x : ℕ) (ls : List Last) → AreReadsSince before old.rows x ls → AreReads more n t x (marks_of t ls)
  are_reads t x ls h = record {
    each = λ m a.
        let r = among_marks t ls m a in
        let i = h.each r.0 r.1 in
        let place : i.0 ≡ m.place = omega (arith, i.1, r.3) in
        let l = r.0 in
        (r.4, subst (λ u. IsReadAt more n x u m.place) (sym r.2) (subst (IsReadAt more n x l.thread) place (read_on old before e stands n (le_refl n) x l.thread i.0 i.2)));
    all = λ u q ne at after. ⊎_elim (λ a. inl (marks_among t u q ls ne a)) (λ k. inr (passed x u q at k)) (h.all u q (sym (same_last (LastRead x u)) ∙ at) (λ p k. after p (same_last (LastWrite x) ∙ k)));
  }
