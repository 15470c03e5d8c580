-- The rows after an event, by what it does.
use Rattle.std.proofs.Common.{◌≡◌, ◌≢◌, ℕ, suc, ◌⊎◌, inl, inr, ⊎_elim, List, [], ◌∷◌, Option, Some, None, refl, sym, ap, ap₂, ◌∙◌, subst}
use Rattle.std.specs.Prelude.{Bool, true, false, ◌==◌, ◌&&◌, ◌||◌, if◌then◌else◌, is_some, slice_get, Contains}
use Rattle.std.proofs.lemmas.Bool.{cases_eq, cases_Bool, and_parts, and_from, and_left, and_right, or_left, or_right, eq-eqb, ne_eqb, cond-true, cond-false}
use Rattle.std.proofs.lemmas.Option.{same_Some}
use Rattle.aero_model.specs.declared.numbered.Numbered.{Numbered}
use Rattle.aero_model.specs.declared.numbered.What.{What}
use Rattle.aero_model.specs.declared.numbered.What.TheVariants.{Begin, Fork}
use Rattle.aero_model.specs.Blocks.{is_begin, is_end, by_thread, depth, opens, closes}
use Rattle.aero_model.specs.Shape.{is_fork_of, IsWellFormed}
use Rattle.aero_model.proofs.Elements.{here, there}
use Rattle.aero_model.proofs.Depths.{opening_at}
use Rattle.aero_model.proofs.Ends.{is_by}
use Rattle.aero_engine.specs.declared.slot.Slot.TheVariants.{OfThread}
use Rattle.aero_engine.specs.Slots.{of_slot}
use Rattle.aero_engine.specs.Takes.{takes_only_own}
use Rattle.aero_engine.proofs.Counts.{quiet_from}
use Rattle.aero_leads.specs.Leads.{Rows, is_led, IsFirst, AreFirst}
use Rattle.aero_leads.specs.Marks.{Mark, TakesMarks}
use Rattle.aero_leads.specs.Marks as takes
use Rattle.aero_leads.specs.Steps.{led_by, gains, arrives, event_rows, take_rows, taken_rows, begin_rows, fork_rows}
use Rattle.aero_leads.proofs.Marked.{stood}
use Rattle.aero_leads.proofs.EventRows.{first_after}

-- the same rows
pub first_as : (trace : List Numbered) (n : ℕ) (old new : Rows) → ((o w : ℕ) → old o w ≡ new o w) → AreFirst trace n old → AreFirst trace n new
first_as trace n old new same first = record {
  is_open = λ o t d. subst (IsFirst trace n _ o) (same o t) (first.is_open o t d);
  outside = λ o t z. sym (same o t) ∙ first.outside o t z;
}

gains_more : (r : Option ℕ) (a b : Bool) (n : ℕ) → gains (gains r a n) b n ≡ gains r (a || b) n
gains_more (Some p) a b n = refl
gains_more None true b n = refl
gains_more None false b n = refl

gains_own : (r : Option ℕ) (a b : Bool) (n : ℕ) → b ≡ false → gains r (is_some r || (a || b)) n ≡ gains r a n
gains_own (Some p) a b n h = refl
gains_own None true b n h = refl
gains_own None false b n h = ap (λ c. gains None c n) h

module _ (n t : ℕ) where
  take_other : (m : Mark) (rows : Rows) (o w : ℕ) → o ≢ t → take_rows n t m rows o w ≡ rows o w
  take_other m rows o w h = cond-false (o == t) _ _ (ne_eqb o t h)

  pub taken_other : (ms : List Mark) (rows : Rows) (o w : ℕ) → o ≢ t → taken_rows n t ms rows o w ≡ rows o w
  taken_other [] rows o w h = refl
  taken_other (m ∷ ms) rows o w h = taken_other ms (take_rows n t m rows) o w h ∙ take_other m rows o w h

  take_own : (m : Mark) (rows : Rows) (w : ℕ) → take_rows n t m rows t w ≡ gains (rows t w) (is_led (rows m.thread w) m.place) n
  take_own m rows w = cond-true (t == t) _ _ (eq-eqb t t refl)

  -- other threads' marks are led as before
  led_same : (m : Mark) (rows : Rows) (w : ℕ) (ms : List Mark) → ((k : Mark) → Contains ms k → k.thread ≢ t) → led_by (take_rows n t m rows) w ms ≡ led_by rows w ms
  led_same m rows w [] others = refl
  led_same m rows w (k ∷ ms) others = ap₂ (λ r b. is_led r k.place || b) (take_other m rows k.thread w (others k (here ms))) (led_same m rows w ms (λ j a. others j (there k ms a)))

  pub taken_own : (ms : List Mark) (rows : Rows) (w : ℕ) → ((k : Mark) → Contains ms k → k.thread ≢ t) → taken_rows n t ms rows t w ≡ gains (rows t w) (led_by rows w ms) n
  taken_own [] rows w others = go (rows t w)
    where
      go : (r : Option ℕ) → r ≡ gains r false n
      go None = refl
      go (Some p) = refl
  taken_own (m ∷ ms) rows w others =
      taken_own ms (take_rows n t m rows) w (λ j a. others j (there m ms a))
      ∙ ap₂ (λ r b. gains r b n) (take_own m rows w) (led_same m rows w ms (λ j a. others j (there m ms a)))
      ∙ gains_more (rows t w) (is_led (rows m.thread w) m.place) (led_by rows w ms) n

module _ (trace : List Numbered) (n : ℕ) (e : Numbered) (at : slice_get trace n ≡ Some e) (rows : Rows) where
  abbrev t : ℕ
  t = e.thread

  -- no other thread begins a block here
  others_shut : (w : ℕ) → w ≢ t → opens trace w n ≡ false
  others_shut w h = ⊎_elim (λ o. absurd (not_here o)) (λ o. o) (cases_Bool (opens trace w n))
    where
      not_here : opens trace w n ≡ true → ⊥
      not_here o =
          let f = is_by w is_begin (slice_get trace n) (and_parts _ _ o).0 in
          h (sym f.thread ∙ ap (λ (a : Numbered). a.thread) (same_Some f.event e (sym f.at ∙ at)))

  is_own : (o : ℕ) → o ≡ t → of_slot (OfThread o) e ≡ true
  is_own o h = or_left _ _ (eq-eqb t o (sym h))

  not_own : (o : ℕ) → o ≢ t → is_fork_of o e.what ≡ false → of_slot (OfThread o) e ≡ false
  not_own o h k = ap (λ b. b || is_fork_of o e.what) (ne_eqb t o (λ j. h (sym j))) ∙ k

  -- an event that begins nothing and forks nothing
  module _ (ms : List Mark) (others : (k : Mark) → Contains ms k → k.thread ≢ t) (shut : opens trace t n ≡ false) (no_fork : (u : ℕ) → is_fork_of u e.what ≡ false) where
    all_shut : (w : ℕ) → opens trace w n ≡ false
    all_shut w = ⊎_elim (λ h. subst (λ v. opens trace v n ≡ false) (sym h) shut) (others_shut w) (cases_eq w t)

    taken_same : (o w : ℕ) → event_rows trace n e ms rows o w ≡ taken_rows n t ms rows o w
    taken_same o w = ⊎_elim own other (cases_eq o t)
      where
        own : o ≡ t → event_rows trace n e ms rows o w ≡ taken_rows n t ms rows o w
        own h =
            cond-true (of_slot (OfThread o) e) _ _ (is_own o h)
            ∙ ap (λ v. gains (rows v w) (arrives trace n e ms rows w) n) h
            ∙ gains_own (rows t w) (led_by rows w ms) (opens trace w n) n (all_shut w)
            ∙ sym (taken_own n t ms rows w others)
            ∙ ap (λ v. taken_rows n t ms rows v w) (sym h)

        other : o ≢ t → event_rows trace n e ms rows o w ≡ taken_rows n t ms rows o w
        other h = cond-false (of_slot (OfThread o) e) _ _ (not_own o h (no_fork o)) ∙ sym (taken_other n t ms rows o w h)

  -- an outermost begin
  module _ (up : opens trace t n ≡ true) (first : AreFirst trace n rows) where
    no_forks : (u : ℕ) → is_fork_of u e.what ≡ false
    no_forks u =
        let f = is_by t is_begin (slice_get trace n) (and_parts _ _ up).0 in
        go e.what (ap (λ (a : Numbered). is_begin a.what) (same_Some e f.event (sym at ∙ f.at)) ∙ f.passes)
      where
        go : (w : What) → is_begin w ≡ true → is_fork_of u w ≡ false
        go (Begin label) h = refl
        go _ h = cc

    begin_same : (o w : ℕ) → event_rows trace n e [] rows o w ≡ begin_rows n t rows o w
    begin_same o w = go (cases_eq o t) (cases_eq w t)
      where
        go : (o ≡ t) ⊎ (o ≢ t) → (w ≡ t) ⊎ (w ≢ t) → event_rows trace n e [] rows o w ≡ begin_rows n t rows o w
        go (inl h) (inl k) =
            let none : rows o w ≡ None = ap (rows o) k ∙ first.outside o t (let s = opening_at trace t n up in s.before) in
            let came : arrives trace n e [] rows w ≡ true = or_right (is_some (rows t w)) _ (subst (λ v. opens trace v n ≡ true) (sym k) up) in
            cond-true (of_slot (OfThread o) e) _ _ (is_own o h)
            ∙ ap₂ (λ r b. gains r b n) none came
            ∙ sym (cond-true ((o == t) && (w == t)) _ _ (and_from _ _ (eq-eqb o t h) (eq-eqb w t k)))
        go (inl h) (inr k) =
            cond-true (of_slot (OfThread o) e) _ _ (is_own o h)
            ∙ ap (λ v. gains (rows v w) (arrives trace n e [] rows w) n) h
            ∙ gains_own (rows t w) false (opens trace w n) n (others_shut w k)
            ∙ gains_none (rows t w)
            ∙ ap (λ v. rows v w) (sym h)
            ∙ sym (cond-false ((o == t) && (w == t)) _ _ (and_right (o == t) _ (ne_eqb w t k)))
          where
            gains_none : (r : Option ℕ) → gains r false n ≡ r
            gains_none None = refl
            gains_none (Some p) = refl
        go (inr h) k = cond-false (of_slot (OfThread o) e) _ _ (not_own o h (no_forks o)) ∙ sym (cond-false ((o == t) && (w == t)) _ _ (and_left _ _ (ne_eqb o t h)))

  -- a fork
  module _ (u : ℕ) (h : e.what ≡ Fork u) where
    fork_shut : (w : ℕ) → opens trace w n ≡ false
    fork_shut w = ⊎_elim (λ o. absurd (begins o)) (λ o. o) (cases_Bool (opens trace w n))
      where
        begins : opens trace w n ≡ true → ⊥
        begins o =
            let f = is_by w is_begin (slice_get trace n) (and_parts _ _ o).0 in
            let z : is_begin (Fork u) ≡ true = ap is_begin (sym h) ∙ ap (λ (a : Numbered). is_begin a.what) (same_Some e f.event (sym at ∙ f.at)) ∙ f.passes in
            cc

    came : (w : ℕ) → arrives trace n e [] rows w ≡ is_some (rows t w)
    came w = ap (λ b. is_some (rows t w) || b) (fork_shut w) ∙ go (is_some (rows t w))
      where
        go : (b : Bool) → (b || false) ≡ b
        go true = refl
        go false = refl

    fork_same : (o w : ℕ) → event_rows trace n e [] rows o w ≡ fork_rows n t u rows o w
    fork_same o w = ap (λ b. if of_slot (OfThread o) e then gains (rows o w) b n else rows o w) (came w) ∙ go (cases_eq o u) (cases_eq o t)
      where
        left : Option ℕ
        left = if of_slot (OfThread o) e then gains (rows o w) (is_some (rows t w)) n else rows o w

        itself : (r : Option ℕ) → gains r (is_some r) n ≡ r
        itself None = refl
        itself (Some p) = refl

        go : (o ≡ u) ⊎ (o ≢ u) → (o ≡ t) ⊎ (o ≢ t) → left ≡ fork_rows n t u rows o w
        go (inl k) _ =
            cond-true (of_slot (OfThread o) e) _ _ (or_right (t == o) _ (ap (is_fork_of o) h ∙ eq-eqb o u k))
            ∙ sym (cond-true (o == u) _ _ (eq-eqb o u k))
        go (inr k) (inl j) =
            cond-true (of_slot (OfThread o) e) _ _ (is_own o j)
            ∙ ap (λ v. gains (rows o w) (is_some (rows v w)) n) (sym j)
            ∙ itself (rows o w)
            ∙ sym (cond-false (o == u) _ _ (ne_eqb o u k))
        go (inr k) (inr j) =
            cond-false (of_slot (OfThread o) e) _ _ (not_own o j (ap (is_fork_of o) h ∙ ne_eqb o u k))
            ∙ sym (cond-false (o == u) _ _ (ne_eqb o u k))

module _ (trace : List Numbered) (ok : IsWellFormed trace) (n : ℕ) (e : Numbered) (at : slice_get trace n ≡ Some e) (rows : Rows) (first : AreFirst trace n rows) where
  pub first_taken : (ms : List Mark) → closes trace e.thread n ≡ false → opens trace e.thread n ≡ false → ((u : ℕ) → is_fork_of u e.what ≡ false) → TakesMarks trace n e ms → AreFirst trace (suc n) (taken_rows n e.thread ms rows)
  first_taken ms no_end shut no_fork takes =
      let st = stood trace ok n e at ms takes in
      first_as trace (suc n) (event_rows trace n e ms rows) (taken_rows n e.thread ms rows)
      (taken_same trace n e at rows ms (λ k a. let i = st.each k a in i.apart) shut no_fork)
      (first_after trace ok n e at (quiet_from trace n e at no_end) ms st rows first)

  pub first_begun : opens trace e.thread n ≡ true → AreFirst trace (suc n) (begin_rows n e.thread rows)
  first_begun up =
      let s = opening_at trace e.thread n up in
      let f = is_by e.thread is_begin (slice_get trace n) (and_parts _ _ up).0 in
      let begins : is_begin e.what ≡ true = ap (λ (a : Numbered). is_begin a.what) (same_Some e f.event (sym at ∙ f.at)) ∙ f.passes in
      first_as trace (suc n) (event_rows trace n e [] rows) (begin_rows n e.thread rows)
      (begin_same trace n e at rows up first)
      (first_after trace ok n e at (quiet_from trace n e at s.closes) [] (stood trace ok n e at [] (takes.plain (own_of e.what begins))) rows first)
    where
      own_of : (w : What) → is_begin w ≡ true → takes_only_own w ≡ true
      own_of (Begin label) h = refl
      own_of _ h = cc

  pub first_forked : (u : ℕ) → e.what ≡ Fork u → AreFirst trace (suc n) (fork_rows n e.thread u rows)
  first_forked u h =
      first_as trace (suc n) (event_rows trace n e [] rows) (fork_rows n e.thread u rows)
      (fork_same trace n e at rows u h)
      (first_after trace ok n e at (quiet_from trace n e at no_end) [] (stood trace ok n e at [] (takes.plain (ap takes_only_own h))) rows first)
    where
      no_end : closes trace e.thread n ≡ false
      no_end = ap (λ a. by_thread e.thread is_end a && (depth trace e.thread n == 1)) at ∙ and_left _ _ (and_right (e.thread == e.thread) (is_end e.what) (ap is_end h))
