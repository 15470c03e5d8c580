-- What one more event changes of a trace: the block of its thread, who has acted, and who made the last events.
use Rattle.std.proofs.Common.{◌≡◌, ◌≢◌, ◌⊎◌, inl, inr, ⊎_elim, ℕ, zero, suc, ◌+◌, ◌<◌, List, [], ◌∷◌, ◌++◌, length, Option, None, Some, refl, sym, ap, ◌∙◌, le_refl, arith, length-append}
use Rattle.std.specs.Prelude.{◌==◌, ◌&&◌, ◌||◌, nat_lt, Bool, true, false, if◌then◌else◌, slice_get}
use Rattle.std.specs.List.{list_any}
use Rattle.std.proofs.lemmas.Bool.{cases_eq, eqb-true, eq-eqb, ne_eqb, lt-ltb, le-ltb, cond-true, cond-false, and_left, or_cases, or_left, or_right}
use Rattle.std.proofs.lemmas.List.Folds.{list_any-append}
use Rattle.std.proofs.lemmas.Option.{same_Some}
use Rattle.aero_model.specs.declared.numbered.Numbered.{Numbered}
use Rattle.aero_model.specs.Blocks.{is_begin, is_end, by_thread, depth, opens, closes, blocks}
use Rattle.aero_model.specs.Shape.{has_acted}
use Rattle.aero_model.proofs.Stability.{Agree, agree_front, depth_same, blocks_same}
use Rattle.aero_model.proofs.Depths.{step, AtOpening, AtClosing, AtOther}
use Rattle.aero_engine.specs.declared.slot.Slot.{Slot}
use Rattle.aero_engine.specs.Slots.{of_slot, last_event}
use Rattle.aero_engine.specs.Takes.{HasActed}
use Rattle.aero_engine.specs.Events.{actor_at, thread_of}
use Rattle.aero_engine.proofs.LastEvents.{is_last, last_kept}
use Rattle.aero_engine.proofs.LongerTraces.{slice_get-push, last_event_same}

-- places of a list that pass a test
place_of : (p : Numbered → Bool) (xs : List Numbered) → list_any p xs ≡ true → (i : ℕ) × (f : Numbered) × (i < length xs) × (slice_get xs i ≡ Some f) × (p f ≡ true)
place_of p [] h = cc
place_of p (x ∷ xs) h =
    ⊎_elim
    (λ e. (0, x, omega arith, refl, e))
    (λ e. let r = place_of p xs e in (suc r.0, r.1, omega (arith, r.2), r.3, r.4))
    (or_cases (p x) (list_any p xs) h)

of_place : (p : Numbered → Bool) (xs : List Numbered) (i : ℕ) (f : Numbered) → slice_get xs i ≡ Some f → p f ≡ true → list_any p xs ≡ true
of_place p [] i f at h = cc
of_place p (x ∷ xs) zero f at h = or_left _ _ (ap p (same_Some x f at) ∙ h)
of_place p (x ∷ xs) (suc i) f at h = or_right _ _ (of_place p xs i f at h)

module _ (before : List Numbered) (e : Numbered) where
  abbrev more : List Numbered
  more = before ++ e ∷ []

  abbrev n : ℕ
  n = length before

  agree : Agree n before more
  agree = agree_front n before (e ∷ []) (le_refl n)

  pub length_more : suc n ≡ length more
  length_more = omega (arith, length-append before (e ∷ []))

  pub depth_more : (t : ℕ) → depth more t n ≡ depth before t n
  depth_more t = sym (depth_same before more t n agree)

  -- of the other threads nothing begins or ends
  by_its_thread : (test : ℕ → Bool) → ((t : ℕ) → e.thread ≢ t → test t ≡ false) → (own : Bool) → test e.thread ≡ own → (t : ℕ) → test t ≡ ((e.thread == t) && own)
  by_its_thread test others own is t =
      ⊎_elim
      (λ same. ap test (sym same) ∙ is ∙ ap (λ b. b && own) (sym (eq-eqb e.thread t same)))
      (λ ne. others t ne ∙ ap (λ b. b && own) (sym (ne_eqb e.thread t ne)))
      (cases_eq e.thread t)

  pub opens_by : (up : Bool) → opens more e.thread n ≡ up → (t : ℕ) → opens more t n ≡ ((e.thread == t) && up)
  opens_by =
      by_its_thread (λ t. opens more t n)
      (λ t ne. ap (λ a. by_thread t is_begin a && (depth more t n == 0)) (slice_get-push before e) ∙ and_left _ _ (and_left (e.thread == t) (is_begin e.what) (ne_eqb e.thread t ne)))

  pub closes_by : (down : Bool) → closes more e.thread n ≡ down → (t : ℕ) → closes more t n ≡ ((e.thread == t) && down)
  closes_by =
      by_its_thread (λ t. closes more t n)
      (λ t ne. ap (λ a. by_thread t is_end a && (depth more t n == 1)) (slice_get-push before e) ∙ and_left _ _ (and_left (e.thread == t) (is_end e.what) (ne_eqb e.thread t ne)))

  -- how many blocks a thread has begun then, and whether it is in one
  pub begins_more : (t begins : ℕ) (up : Bool) → opens more t n ≡ up → begins ≡ blocks before t n → (if up then begins + 1 else begins) ≡ blocks more t (suc n)
  begins_more t begins up opening is =
      ap (λ m. if up then m + 1 else m) (is ∙ blocks_same n before more agree t n (le_refl n))
      ∙ ap (λ b. if b then blocks more t n + 1 else blocks more t n) (sym opening)

  pub inside_more : (t : ℕ) (inside up down : Bool) → opens more t n ≡ up → closes more t n ≡ down → inside ≡ nat_lt 0 (depth before t n) → (if up then true else if down then false else inside) ≡ nat_lt 0 (depth more t (suc n))
  inside_more t inside up down opening closing is =
      ap (λ b. if b then true else if down then false else inside) (sym opening) ∙ ap (λ b. if opens more t n then true else if b then false else inside) (sym closing)
      ∙ go (step more t n)
    where
      still : AtOther more t n → (depth more t n ≡ 0) ⊎ (depth more t n ≢ 0) → nat_lt 0 (depth more t n) ≡ nat_lt 0 (depth more t (suc n))
      still s (inl z) = le-ltb 0 (depth more t n) (omega (arith, z)) ∙ sym (le-ltb 0 (depth more t (suc n)) (omega (arith, s.outside z)))
      still s (inr z) = let deep : 0 < depth more t n = omega (arith, z) in lt-ltb 0 (depth more t n) deep ∙ sym (lt-ltb 0 (depth more t (suc n)) (s.inside deep))

      go : AtOpening more t n ⊎ (AtClosing more t n ⊎ AtOther more t n) → (if opens more t n then true else if closes more t n then false else inside) ≡ nat_lt 0 (depth more t (suc n))
      go (inl s) = cond-true (opens more t n) _ _ s.opens ∙ sym (lt-ltb 0 (depth more t (suc n)) (omega (arith, s.after)))
      go (inr (inl s)) = cond-false (opens more t n) _ _ s.opens ∙ cond-true (closes more t n) _ _ s.closes ∙ sym (le-ltb 0 (depth more t (suc n)) (omega (arith, s.after)))
      go (inr (inr s)) = cond-false (opens more t n) _ _ s.opens ∙ cond-false (closes more t n) _ _ s.closes ∙ is ∙ ap (nat_lt 0) (sym (depth_more t)) ∙ still s (cases_eq (depth more t n) 0)

  -- its thread has acted, and of the others the same
  pub acted_more : (t : ℕ) (acted : Bool) → acted ≡ has_acted before t → (if e.thread == t then true else acted) ≡ has_acted more t
  acted_more t acted is =
      ap (λ b. if e.thread == t then true else b) is ∙ either_one (e.thread == t) (has_acted before t)
      ∙ sym (list_any-append (λ (f : Numbered). f.thread == t) before (e ∷ []))
    where
      either_one : (b c : Bool) → (if b then true else c) ≡ (c || (b || false))
      either_one true true = refl
      either_one true false = refl
      either_one false true = refl
      either_one false false = refl

  pub acted_place : (u : ℕ) → has_acted before u ≡ true → HasActed more n u
  acted_place u acted =
      let r = place_of (λ f. f.thread == u) before acted in
      record {
        place = r.0;
        below = r.2;
        event = r.1;
        event_at = sym (agree.same r.0 r.2) ∙ r.3;
        thread = eqb-true r.1.thread u r.4;
      }

  pub place_acted : (u : ℕ) → HasActed more n u → has_acted before u ≡ true
  place_acted u a = of_place (λ f. f.thread == u) before a.place a.event (agree.same a.place a.below ∙ a.event_at) (eq-eqb a.event.thread u a.thread)

  -- the last event of a slot that it isn't of has the same thread
  pub actor_kept : (s : Slot) → of_slot s e ≡ false → actor_at before (last_event before n s) ≡ actor_at more (last_event more (suc n) s)
  actor_kept s b =
      ap (actor_at before) (last_event_same n before more agree s) ∙ old_actor (last_event more n s) refl
      ∙ sym (ap (actor_at more) (last_kept (of_slot s) more n e (slice_get-push before e) b))
    where
      old_actor : (o : Option ℕ) → last_event more n s ≡ o → actor_at before o ≡ actor_at more o
      old_actor None last = refl
      old_actor (Some q) last = ap thread_of (agree.same q (is_last (of_slot s) more n q last).below)
