-- What is kept of a trace, after one more event that is no outermost end.
use Rattle.std.proofs.Common.{◌≡◌, ◌≢◌, ◌⊎◌, inl, inr, ⊎_elim, ℕ, suc, ◌+◌, ◌<◌, ◌≤◌, List, [], ◌∷◌, ◌++◌, length, Option, Some, None, refl, sym, ap, ◌∙◌, subst, le_refl, arith}
use Rattle.std.specs.Prelude.{◌==◌, ◌&&◌, nat_lt, Bool, true, false, if◌then◌else◌, Contains}
use Rattle.std.proofs.lemmas.Bool.{cases_Bool, eqb-true, ltb-true, lt-ltb, cond-true, cond-false, and_parts}
use Rattle.aero_model.specs.declared.numbered.Numbered.{Numbered}
use Rattle.aero_model.specs.Blocks.{depth, opens, closes, blocks}
use Rattle.aero_model.specs.Shape.{IsWellFormed}
use Rattle.aero_model.proofs.Stability.{Agree, agree_front, depth_same}
use Rattle.aero_model.proofs.Begins.{open_number}
use Rattle.aero_engine.specs.declared.slot.Slot.{Slot}
use Rattle.aero_engine.specs.declared.slot.Slot.TheVariants.{OfThread}
use Rattle.aero_engine.specs.Slots.{of_slot, last_event}
use Rattle.aero_engine.specs.Takes.{Takes}
use Rattle.aero_engine.specs.Clocks.{Clock, AreSound, MissNothing, IsBeginClock, greatest, new_clock, new_clocks}
use Rattle.aero_engine.specs.Judgement.{IsJudged, IsTold, IsUntold}
use Rattle.aero_engine.specs.Events.{actor_at, thread_of}
use Rattle.aero_engine.proofs.LastEvents.{to_thread, last_new}
use Rattle.aero_engine.proofs.Counts.{quiet_from}
use Rattle.aero_engine.proofs.LongerTraces.{slice_get-push, begin_clock_same, sound_front, complete_front, sound_less, complete_greater}
use Rattle.aero_engine.proofs.OneMore.{length_more, opens_by, begins_more, inside_more, acted_more, actor_kept}
use Rattle.aero_engine.proofs.Rules.{begin_clock_at_most, begin_clock_event}
use Rattle.aero_engine.proofs.BeginClocks.{begin_clock_kept}
use Rattle.aero_engine.proofs.Pushes.{told_push, untold_push}
use Rattle.aero_access.specs.LastClocks.{is_kept}
use Rattle.aero_access.specs.States.{State, IsStateOf}

-- a clock with 1 more at t where a block opens
abbrev pub opened : Bool → ℕ → (ℕ → ℕ) → ℕ → ℕ
opened o t K u = if o && (u == t) then K u + 1 else K u

-- after event e, whose thread has taken the clock K, and which opens a block or not
pub record IsStep (old new : State) (e : Numbered) (K : ℕ → ℕ) (o : Bool) : Type 0 where
  pub clock : (s : Slot) (u : ℕ) → new.clock s u ≡ (if of_slot s e then opened o e.thread K u else old.clock s u)
  pub actor : (s : Slot) → is_kept s ≡ true → new.actor s ≡ (if of_slot s e then Some e.thread else old.actor s)
  pub acted : (t : ℕ) → new.acted t ≡ (if e.thread == t then true else old.acted t)
  pub begins : (t : ℕ) → new.begins t ≡ (if (e.thread == t) && o then old.begins t + 1 else old.begins t)
  pub in_block : (t : ℕ) → new.in_block t ≡ (if (e.thread == t) && o then true else old.in_block t)
  pub begin_clock : (t u : ℕ) → new.begin_clock t u ≡ (if (e.thread == t) && o then new.clock (OfThread t) u else old.begin_clock t u)

-- equal clocks
pub begin_clock_eq : (trace : List Numbered) (n t : ℕ) (K L : Clock) → ((u : ℕ) → L u ≡ K u) → IsBeginClock trace n t K → IsBeginClock trace n t L
begin_clock_eq trace n t K L same b = record {
  is_open = b.is_open;
  place = b.place;
  below = b.below;
  begun = b.begun;
  number = b.number;
  sound = record { leads = λ u k pos le. b.sound.leads u k pos (omega (arith, same u)) };
  counts = omega (arith, b.counts, same t);
}

module _ (old : State) (before : List Numbered) (e : Numbered) (ok : IsWellFormed (before ++ e ∷ [])) (stands : IsStateOf old before) where
  abbrev more : List Numbered
  more = before ++ e ∷ []

  abbrev n : ℕ
  n = length before

  agree : Agree n before more
  agree = agree_front n before (e ∷ []) (le_refl n)

  sound : AreSound more n old.clock
  sound = sound_front before (e ∷ []) n (le_refl n) old.clock stands.untold.sound

  complete : MissNothing more n old.clock
  complete = complete_front before (e ∷ []) n (le_refl n) old.clock stands.untold.complete

  begun : (t : ℕ) → old.in_block t ≡ true → IsBeginClock more n t (old.begin_clock t)
  begun t inside = begin_clock_same n before more agree t (old.begin_clock t) (stands.begin_clock t inside)

  is_inside : (t : ℕ) → 0 < depth more t n → old.in_block t ≡ true
  is_inside t inside = stands.in_block t ∙ lt-ltb 0 (depth before t n) (subst (λ d. 0 < d) (sym (depth_same before more t n agree)) inside)

  module _ (ss : List Slot) (takes : Takes more n e ss) (no_end : closes more e.thread n ≡ false) where
    -- a clock that closes a cycle is judged
    pub closing_told : (s : Slot) → Contains ss s → s ≢ OfThread e.thread → old.in_block e.thread ≡ true → ((u : ℕ) → old.begin_clock e.thread u ≤ old.clock s u) → IsTold more n (Some e.thread)
    closing_told s among other inside at_most =
        let b = begun e.thread inside in
        (told_push before e ok old.clock stands.untold ss takes no_end (Some e.thread)).0
        (refl, record { is_open = b.is_open; slot = s; among = among; other = other; counted = omega (arith, b.counts, at_most e.thread) })

    -- where none does, the event is not judged
    pub none_judged : ((s : Slot) → Contains ss s → s ≢ OfThread e.thread → old.in_block e.thread ≡ true → ((u : ℕ) → old.begin_clock e.thread u ≤ old.clock s u) → ⊥) → ¬ IsJudged more n e.thread old.clock ss
    none_judged none j =
        let inside = is_inside e.thread j.is_open in
        none j.slot j.among j.other inside (go (last_event more n j.slot) refl (begun e.thread inside))
      where
        go : (o : Option ℕ) → last_event more n j.slot ≡ o → IsBeginClock more n e.thread (old.begin_clock e.thread) → (u : ℕ) → old.begin_clock e.thread u ≤ old.clock j.slot u
        go None last b = absurd (omega (arith, j.counted, sound.at_none j.slot e.thread last, open_number more e.thread n b.is_open))
        go (Some q) last b = (begin_clock_at_most more n e.thread (old.begin_clock e.thread) old.clock b sound complete j.slot q last).1 j.counted

    -- what is kept then is right for the longer trace
    module _ (new : State) (o : Bool) (opening : opens more e.thread n ≡ o) (K : ℕ → ℕ) (taken : (u : ℕ) → K u ≡ greatest old.clock ss u) (after : IsStep old new e K o) (not_judged : ¬ IsJudged more n e.thread old.clock ss) where
      opened_new : (b : Bool) → opens more e.thread n ≡ b → (u : ℕ) → opened b e.thread K u ≡ new_clock more n e.thread (greatest old.clock ss) u
      opened_new true h u = raised_is (u == e.thread) ∙ ap (λ (f : Clock). f u) (sym (cond-true (opens more e.thread n) _ _ h))
        where
          raised_is : (c : Bool) → (if c then K u + 1 else K u) ≡ (if c then greatest old.clock ss u + 1 else greatest old.clock ss u)
          raised_is c = ap (λ m. if c then m + 1 else m) (taken u)
      opened_new false h u = taken u ∙ ap (λ (f : Clock). f u) (sym (cond-false (opens more e.thread n) _ _ h))

      clocks_new : (s : Slot) (u : ℕ) → new.clock s u ≡ new_clocks more n e old.clock (greatest old.clock ss) s u
      clocks_new s u = after.clock s u ∙ go (cases_Bool (of_slot s e))
        where
          go : (of_slot s e ≡ true) ⊎ (of_slot s e ≡ false) → (if of_slot s e then opened o e.thread K u else old.clock s u) ≡ new_clocks more n e old.clock (greatest old.clock ss) s u
          go (inl b) = cond-true (of_slot s e) _ _ b ∙ opened_new o opening u ∙ ap (λ (f : Clock). f u) (sym (cond-true (of_slot s e) _ _ b))
          go (inr b) = cond-false (of_slot s e) _ _ b ∙ ap (λ (f : Clock). f u) (sym (cond-false (of_slot s e) _ _ b))

      untold : IsUntold more new.clock
      untold =
          let u = untold_push before e ok old.clock stands.untold ss takes no_end not_judged in
          record {
            sound = sound_less more (length more) (new_clocks more n e old.clock (greatest old.clock ss)) new.clock (λ s v. omega (arith, clocks_new s v)) u.sound;
            complete = complete_greater more (length more) (new_clocks more n e old.clock (greatest old.clock ss)) new.clock (λ s v. omega (arith, clocks_new s v)) u.complete;
            none = u.none;
          }

      inside_new : (t : ℕ) → new.in_block t ≡ nat_lt 0 (depth more t (suc n))
      inside_new t = after.in_block t ∙ inside_more before e t (old.in_block t) ((e.thread == t) && o) false (opens_by before e o opening t) (quiet_from more n e (slice_get-push before e) no_end t) (stands.in_block t)

      begin_clock_new : (t : ℕ) → new.in_block t ≡ true → IsBeginClock more (suc n) t (new.begin_clock t)
      begin_clock_new t inside = ⊎_elim at_opening at_other (cases_Bool ((e.thread == t) && o))
        where
          at_opening : ((e.thread == t) && o) ≡ true → IsBeginClock more (suc n) t (new.begin_clock t)
          at_opening b =
              let p = and_parts (e.thread == t) o b in
              let same : e.thread ≡ t = eqb-true e.thread t p.0 in
              begin_clock_eq more (suc n) t (new_clock more n e.thread (greatest old.clock ss)) (new.begin_clock t)
              (λ u. after.begin_clock t u ∙ cond-true ((e.thread == t) && o) _ _ b ∙ clocks_new (OfThread t) u
              ∙ ap (λ (f : Clock). f u) (cond-true (of_slot (OfThread t) e) _ _ (to_thread t e same)))
              (subst (λ v. IsBeginClock more (suc n) v (new_clock more n e.thread (greatest old.clock ss))) same
              (begin_clock_event more ok n e (slice_get-push before e) old.clock ss takes sound complete (opening ∙ p.1)))

          at_other : ((e.thread == t) && o) ≡ false → IsBeginClock more (suc n) t (new.begin_clock t)
          at_other b =
              let was = begun t (sym (after.in_block t ∙ cond-false ((e.thread == t) && o) _ _ b) ∙ inside) in
              begin_clock_eq more (suc n) t (old.begin_clock t) (new.begin_clock t)
              (λ u. after.begin_clock t u ∙ cond-false ((e.thread == t) && o) _ _ b)
              (begin_clock_kept more n t (old.begin_clock t) was (ltb-true 0 (depth more t (suc n)) (sym (inside_new t) ∙ inside)))

      actor_new : (s : Slot) → is_kept s ≡ true → new.actor s ≡ actor_at more (last_event more (suc n) s)
      actor_new s kept = after.actor s kept ∙ go (cases_Bool (of_slot s e))
        where
          go : (of_slot s e ≡ true) ⊎ (of_slot s e ≡ false) → (if of_slot s e then Some e.thread else old.actor s) ≡ actor_at more (last_event more (suc n) s)
          go (inl b) =
              cond-true (of_slot s e) _ _ b ∙ sym (ap thread_of (slice_get-push before e)) ∙ sym (ap (actor_at more) (last_new (of_slot s) more n e (slice_get-push before e) b))
          go (inr b) = cond-false (of_slot s e) _ _ b ∙ stands.actor s kept ∙ actor_kept before e s b

      pub stands_after : IsStateOf new more
      stands_after = record {
        untold = untold;
        actor = λ s kept. actor_new s kept ∙ ap (λ m. actor_at more (last_event more m s)) (length_more before e);
        acted = λ t. after.acted t ∙ acted_more before e t (old.acted t) (stands.acted t);
        begins = λ t. after.begins t ∙ begins_more before e t (old.begins t) ((e.thread == t) && o) (opens_by before e o opening t) (stands.begins t) ∙ ap (blocks more t) (length_more before e);
        in_block = λ t. inside_new t ∙ ap (λ m. nat_lt 0 (depth more t m)) (length_more before e);
        begin_clock = λ t inside. subst (λ m. IsBeginClock more m t (new.begin_clock t)) (length_more before e) (begin_clock_new t inside);
      }
