-- Where an event's edges come from, by what is kept of each slot: the number of the transaction of its last event.
use Rattle.std.proofs.Common.{◌≡◌, ℕ, zero, suc, ◌==◌, Bool, true, List, [], ◌∷◌, ◌++◌, length, Option, Some, None, inl, inr, refl, sym, ◌∙◌, ap, subst, le_refl, arith}
use Rattle.std.specs.Prelude.{slice_get, Contains}
use Rattle.std.specs.Option.{option_to_list}
use Rattle.std.proofs.lemmas.List.Elements.{Contains-append_left, Contains-append_right, Contains-append_cases}
use Rattle.std.proofs.lemmas.Option.{same_Some}
use Rattle.aero_model.specs.declared.numbered.Numbered.{Numbered}
use Rattle.aero_model.specs.declared.numbered.What.{What}
use Rattle.aero_model.specs.declared.numbered.What.TheVariants.{Read, Write, Acquire, Join}
use Rattle.aero_model.specs.Blocks.{transaction}
use Rattle.aero_model.proofs.Stability.{Agree, agree_front}
use Rattle.aero_engine.specs.declared.slot.Slot.{Slot}
use Rattle.aero_engine.specs.declared.slot.Slot.TheVariants.{OfThread, LastWrite, LastRelease}
use Rattle.aero_engine.specs.Slots.{of_slot, last_of, last_event}
use Rattle.aero_engine.proofs.LastEvents.{last_same}
use Rattle.aero_order.specs.LastNumbers.{IsKept, is_looked_at, Keeps, looked_at}
use Rattle.aero_order.specs.Near.{NoWriteBetween, Near, own, read, write, write_after_read, acquire, join}
use Rattle.aero_order.specs.TransactionNumbers.{HasNumber}

kept_some : (trace : List Numbered) (firsts : List ℕ) (i : ℕ) (o : Option ℕ) → IsKept trace firsts (Some i) o → (u : ℕ) × HasNumber trace firsts (transaction trace i) u × Contains (option_to_list o) u
kept_some trace firsts i None k = absurd k
kept_some trace firsts i (Some u) k = (u, k, (zero, omega arith, refl))

kept_from : (trace : List Numbered) (firsts : List ℕ) (l o : Option ℕ) (u : ℕ) → IsKept trace firsts l o → Contains (option_to_list o) u → (i : ℕ) × (l ≡ Some i) × HasNumber trace firsts (transaction trace i) u
kept_from trace firsts None None u k (p, l, e) = absurd (omega arith)
kept_from trace firsts None (Some v) u k c = absurd k
kept_from trace firsts (Some i) None u k c = absurd k
kept_from trace firsts (Some i) (Some v) u k (zero, l, e) = (i, refl, subst (HasNumber trace firsts (transaction trace i)) e k)
kept_from trace firsts (Some i) (Some v) u k (suc p, l, e) = absurd (omega arith)

module _ (trace : List Numbered) (firsts : List ℕ) (kept : Slot → Option ℕ) (reads : ℕ → List ℕ) (own_last : ℕ → Option ℕ) (keeps : Keeps trace firsts kept reads own_last) (e : Numbered) where
  abbrev n : ℕ
  n = length trace

  abbrev more : List Numbered
  more = trace ++ e ∷ []

  agree : Agree (length trace) trace (trace ++ e ∷ [])
  agree = agree_front (length trace) trace (e ∷ []) (le_refl (length trace))

  at_last : (xs : List Numbered) → slice_get (xs ++ e ∷ []) (length xs) ≡ Some e
  at_last [] = refl
  at_last (x ∷ xs) = at_last xs

  -- it is near the event, and has the number
  abbrev pub NearBy : ℕ → ℕ → Type 0
  NearBy i u = Near more i n × HasNumber trace firsts (transaction trace i) u

  abbrev pub numbers : What → List ℕ
  numbers w = option_to_list (kept (OfThread e.thread)) ++ looked_at kept reads own_last w

  before : (test : Numbered → Bool) (o : Option ℕ) → last_of test trace n ≡ o → last_of test more n ≡ o
  before test o q = sym (last_same test n trace more agree) ∙ q

  after : (test : Numbered → Bool) (o : Option ℕ) → last_of test more n ≡ o → last_of test trace n ≡ o
  after test o q = last_same test n trace more agree ∙ q

  no_write_more : (x i : ℕ) → NoWriteBetween trace x i n → NoWriteBetween more x i n
  no_write_more x i none k f l m at = none k f l m (agree.same k m ∙ at)

  no_write_less : (x i : ℕ) → NoWriteBetween more x i n → NoWriteBetween trace x i n
  no_write_less x i none k f l m at = none k f l m (sym (agree.same k m) ∙ at)

  -- by a slot: there is a place
  by_slot : (s : Slot) (u : ℕ) → is_looked_at s ≡ true → ((i : ℕ) → last_event more n s ≡ Some i → Near more i n) → Contains (option_to_list (kept s)) u → (i : ℕ) × NearBy i u
  by_slot s u part near c = let r = kept_from trace firsts (last_event trace n s) (kept s) u (keeps.slots s part) c in (r.0, (near r.0 (before (of_slot s) (Some r.0) r.1), r.2))

  looked_near : (w : What) → e.what ≡ w → (u : ℕ) → Contains (looked_at kept reads own_last w) u → (i : ℕ) × NearBy i u
  looked_near (Read x) is u c = by_slot (LastWrite x) u refl (λ i last. read e x (at_last trace) is last) c
  looked_near (Write x) is u c = elim (Contains-append_cases (option_to_list (kept (LastWrite x))) (reads x) u c) [
    | inl a ↦ by_slot (LastWrite x) u refl (λ i last. write e x (at_last trace) is last) a
    | inr a ↦
        let r = (keeps.read x).only u a in
        (r.0, (write_after_read r.1 e x r.2 (sym (agree.same r.0 r.2) ∙ r.3) r.4 (at_last trace) is (no_write_more x r.0 r.5), r.6))
  ]
  looked_near (Acquire l) is u c = by_slot (LastRelease l) u refl (λ i last. acquire e l (at_last trace) is last) c
  looked_near (Join t) is u c =
      let r = kept_from trace firsts (last_of (λ f. f.thread == t) trace n) (own_last t) u (keeps.owns t) c in
      (r.0, (join e t (at_last trace) is (before (λ f. f.thread == t) (Some r.0) r.1), r.2))
  looked_near _ is u c = absurd (omega (arith, c.1))

  -- each number is that of a near event
  pub numbers_near : (u : ℕ) → Contains (numbers e.what) u → (i : ℕ) × NearBy i u
  numbers_near u c = elim (Contains-append_cases (option_to_list (kept (OfThread e.thread))) (looked_at kept reads own_last e.what) u c) [
    | inl a ↦ by_slot (OfThread e.thread) u refl (λ i last. own e (at_last trace) last) a
    | inr a ↦ looked_near e.what refl u a
  ]

  abbrev pub HasOne : ℕ → Type 0
  HasOne i = (u : ℕ) × HasNumber trace firsts (transaction trace i) u × Contains (numbers e.what) u

  same_event : (d : Numbered) → slice_get more n ≡ Some d → d ≡ e
  same_event d at = same_Some d e (sym at ∙ at_last trace)

  from_slot : (s : Slot) (i : ℕ) → is_looked_at s ≡ true → last_event more n s ≡ Some i → (u : ℕ) × HasNumber trace firsts (transaction trace i) u × Contains (option_to_list (kept s)) u
  from_slot s i part last = kept_some trace firsts i (kept s) (subst (λ o. IsKept trace firsts o (kept s)) (after (of_slot s) (Some i) last) (keeps.slots s part))

  looked : (w : What) → e.what ≡ w → (i : ℕ) → (u : ℕ) × HasNumber trace firsts (transaction trace i) u × Contains (looked_at kept reads own_last w) u → HasOne i
  looked w is i r = (r.0, r.1, Contains-append_right (option_to_list (kept (OfThread e.thread))) (looked_at kept reads own_last e.what) r.0 (subst (λ v. Contains (looked_at kept reads own_last v) r.0) (sym is) r.2))

  -- each near event has its number there
  pub near_numbers : (i : ℕ) → Near more i n → HasOne i
  near_numbers i (own d at last) =
      let r = from_slot (OfThread e.thread) i refl (subst (λ (f : Numbered). last_event more n (OfThread f.thread) ≡ Some i) (same_event d at) last) in
      (r.0, r.1, Contains-append_left (option_to_list (kept (OfThread e.thread))) (looked_at kept reads own_last e.what) r.0 r.2)
  near_numbers i (read d x at is last) = looked (Read x) (ap (λ (f : Numbered). f.what) (sym (same_event d at)) ∙ is) i (from_slot (LastWrite x) i refl last)
  near_numbers i (write d x at is last) =
      let r = from_slot (LastWrite x) i refl last in
      looked (Write x) (ap (λ (f : Numbered). f.what) (sym (same_event d at)) ∙ is) i (r.0, r.1, Contains-append_left (option_to_list (kept (LastWrite x))) (reads x) r.0 r.2)
  near_numbers i (write_after_read c d x l at_i is_read at is none) =
      let r = (keeps.read x).all i c l (agree.same i l ∙ at_i) is_read (no_write_less x i none) in
      looked (Write x) (ap (λ (f : Numbered). f.what) (sym (same_event d at)) ∙ is) i (r.0, r.1, Contains-append_right (option_to_list (kept (LastWrite x))) (reads x) r.0 r.2)
  near_numbers i (acquire d o at is last) = looked (Acquire o) (ap (λ (f : Numbered). f.what) (sym (same_event d at)) ∙ is) i (from_slot (LastRelease o) i refl last)
  near_numbers i (join d t at is last) =
      looked (Join t) (ap (λ (f : Numbered). f.what) (sym (same_event d at)) ∙ is) i
      (kept_some trace firsts i (own_last t) (subst (λ o. IsKept trace firsts o (own_last t)) (after (λ f. f.thread == t) (Some i) last) (keeps.owns t)))
