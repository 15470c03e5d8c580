-- What is kept of a trace after the end of a block.
use Rattle.std.proofs.Common.{◌≡◌, ◌≢◌, ◌↔◌, ⊎_elim, ℕ, suc, ◌<◌, ◌≤◌, List, [], ◌∷◌, ◌++◌, length, Option, Some, None, refl, sym, ap, ◌∙◌, subst, le_refl, arith}
use Rattle.std.specs.Prelude.{◌==◌, ◌&&◌, nat_lt, nat_le, Bool, true, false}
use Rattle.std.proofs.lemmas.Bool.{cases_Bool, cases_lt, cases_eq, both_ways, eq-eqb, ne_eqb, lt-ltb, le-leb, leb-true, ltb-true, cond-true, cond-false, and_right}
use Rattle.aero_model.specs.declared.numbered.Numbered.{Numbered}
use Rattle.aero_model.specs.declared.numbered.What.TheVariants.{End}
use Rattle.aero_model.specs.Blocks.{depth, opens, closes, blocks}
use Rattle.aero_model.specs.Shape.{IsWellFormed}
use Rattle.aero_model.proofs.Stability.{Agree, agree_front, depth_same}
use Rattle.aero_model.proofs.Depths.{closing_at}
use Rattle.aero_model.proofs.Begins.{open_number}
use Rattle.aero_engine.specs.declared.slot.Slot.{Slot}
use Rattle.aero_engine.specs.declared.slot.Slot.TheVariants.{OfThread, LastWrite, LastRead, LastRelease}
use Rattle.aero_engine.specs.Slots.{of_slot, last_event}
use Rattle.aero_engine.specs.Clocks.{AreSound, MissNothing, IsBeginClock, end_clocks}
use Rattle.aero_engine.specs.Judgement.{IsJudgedAtEnd, IsNamedAtEnd, IsUntold}
use Rattle.aero_engine.specs.Events.{actor_at, event}
use Rattle.aero_engine.proofs.LongerTraces.{no_begin, begin_clock_same, sound_front, complete_front, sound_less, complete_greater}
use Rattle.aero_engine.proofs.OneMore.{length_more, opens_by, closes_by, begins_more, inside_more, acted_more, actor_kept}
use Rattle.aero_engine.proofs.Rules.{begin_clock_at_most}
use Rattle.aero_engine.proofs.BeginClocks.{begin_clock_kept}
use Rattle.aero_engine.proofs.Pushes.{told_push_end, untold_push_end}
use Rattle.aero_access.specs.declared.clocks.Clocks.{Clocks}
use Rattle.aero_access.specs.LastClocks.{is_kept}
use Rattle.aero_access.specs.Standing.{state_of, clock_of, begin_clock_of, in_block_at, begins_at, acted_at, slots_of, StandsFor, Tells, IsBehind, ClosesBlock, HaveSameTests}
use Rattle.aero_access.proofs.StateSteps.{begin_clock_eq}
use Rattle.aero_access.proofs.SlotNumbers.{numbered, inside_within}
use Rattle.aero_end.specs.Ends.{ClosesAtEnd, IsFirst, Joins, Spreads}

module _ (c : Clocks) (before : List Numbered) (t : ℕ) (stands : StandsFor c before) (ok : IsWellFormed (before ++ event t End ∷ [])) (closing : closes (before ++ event t End ∷ []) t (length before) ≡ true) where
  abbrev e : Numbered
  e = event t End

  abbrev more : List Numbered
  more = before ++ e ∷ []

  abbrev n : ℕ
  n = length before

  agree : Agree n before more
  agree = agree_front n before (e ∷ []) (le_refl n)

  sound : AreSound more n (clock_of c)
  sound = sound_front before (e ∷ []) n (le_refl n) (clock_of c) stands.state.untold.sound

  complete : MissNothing more n (clock_of c)
  complete = complete_front before (e ∷ []) n (le_refl n) (clock_of c) stands.state.untold.complete

  begun : (u : ℕ) → in_block_at c u ≡ true → IsBeginClock more n u (begin_clock_of c u)
  begun u inside = begin_clock_same n before more agree u (begin_clock_of c u) (stands.state.begin_clock u inside)

  is_inside : (u : ℕ) → 0 < depth more u n → in_block_at c u ≡ true
  is_inside u deep = stands.state.in_block u ∙ lt-ltb 0 (depth before u n) (subst (λ d. 0 < d) (sym (depth_same before more u n agree)) deep)

  inside_own : in_block_at c t ≡ true
  inside_own = let k = closing_at more t n closing in is_inside t (omega (arith, k.before))

  -- a clock is at least a begin clock exactly where it counts the block
  counts : (u : ℕ) → in_block_at c u ≡ true → (s : Slot) → IsBehind c u (clock_of c s) ↔ (blocks more u n ≤ clock_of c s u)
  counts u inside s = go (last_event more n s) refl (begun u inside)
    where
      go : (o : Option ℕ) → last_event more n s ≡ o → IsBeginClock more n u (begin_clock_of c u) → IsBehind c u (clock_of c s) ↔ (blocks more u n ≤ clock_of c s u)
      go None last b = (λ h. omega (arith, b.counts, h u), λ h. absurd (omega (arith, sound.at_none s u last, open_number more u n b.is_open)))
      go (Some j) last b = begin_clock_at_most more n u (begin_clock_of c u) (clock_of c) b sound complete s j last

  judged : (u : ℕ) → ClosesAtEnd c t u → IsJudgedAtEnd more n t (clock_of c) u
  judged u h =
      let b = begun u h.taken.inside in
      record {
        other = h.other;
        is_open = b.is_open;
        taken = (counts u h.taken.inside (OfThread t)).0 h.taken.behind;
        given = (counts t inside_own (OfThread u)).0 h.given;
      }

  from_judged : (u : ℕ) → IsJudgedAtEnd more n t (clock_of c) u → ClosesAtEnd c t u
  from_judged u j =
      let inside = is_inside u j.is_open in
      record {
        other = j.other;
        given = (counts t inside_own (OfThread u)).1 j.given;
        taken = record { slot = refl; inside = inside; behind = (counts u inside (OfThread t)).1 j.taken };
      }

  -- a thread whose block closes is told, if it is the least
  pub tells_first : (new : Clocks) (u : ℕ) → IsFirst c new t u → Tells new more n (Some u)
  tells_first new u first = record {
    told = (told_push_end before e ok (clock_of c) stands.state.untold closing (Some u)).0
        (judged u first.closes, λ v j. ⊎_elim (λ l. absurd (first.first v l (from_judged v j))) (λ le. le) (cases_lt v u));
    stands = λ none. cc;
  }

  module _ (now : Clocks) (spread : Spreads c now t (slots_of c)) where
    none_named : IsNamedAtEnd more n t (clock_of c) None
    none_named u j =
        let h = from_judged u j in
        let l = inside_within c.threads.items u h.taken.inside in
        spread.none u (omega arith) h

    -- the clocks are what the rule says
    clocks_end : (s : Slot) (u : ℕ) → clock_of now s u ≡ end_clocks more n t (clock_of c) s u
    clocks_end s u = ⊎_elim at_counted at_other (cases_Bool (nat_le (blocks more t n) (clock_of c s t)))
      where
        joins : blocks more t n ≤ clock_of c s t → Joins c now t s
        joins counted =
            let b = begun t inside_own in
            let some : 0 < clock_of c s t = omega (arith, open_number more t n b.is_open) in
            let r = numbered c.threads.items c.table s t some in
            subst (Joins c now t) r.2 (spread.joined r.0 r.1 (subst (λ x. IsBehind c t (clock_of c x)) (sym r.2) ((counts t inside_own s).1 counted)))

        at_counted : nat_le (blocks more t n) (clock_of c s t) ≡ true → clock_of now s u ≡ end_clocks more n t (clock_of c) s u
        at_counted h = joins (leb-true (blocks more t n) (clock_of c s t) h) u ∙ sym (cond-true (nat_le (blocks more t n) (clock_of c s t)) _ _ h)

        at_other : nat_le (blocks more t n) (clock_of c s t) ≡ false → clock_of now s u ≡ end_clocks more n t (clock_of c) s u
        at_other h =
            ⊎_elim
            (λ stays. stays u ∙ sym (cond-false (nat_le (blocks more t n) (clock_of c s t)) _ _ h))
            (λ b. absurd (both_ways (nat_le (blocks more t n) (clock_of c s t)) h (le-leb (blocks more t n) (clock_of c s t) ((counts t inside_own s).0 b.0))))
            (spread.clock s)

    module _ (tests : HaveSameTests c now) (new : Clocks) (closed : ClosesBlock now new t) where
      clocks_new : (s : Slot) (u : ℕ) → clock_of new s u ≡ end_clocks more n t (clock_of c) s u
      clocks_new s u = closed.clock s u ∙ clocks_end s u

      untold : IsUntold more (clock_of new)
      untold =
          let u = untold_push_end before e ok (clock_of c) stands.state.untold closing none_named in
          record {
            sound = sound_less more (length more) (end_clocks more n t (clock_of c)) (clock_of new) (λ s v. omega (arith, clocks_new s v)) u.sound;
            complete = complete_greater more (length more) (end_clocks more n t (clock_of c)) (clock_of new) (λ s v. omega (arith, clocks_new s v)) u.complete;
            none = u.none;
          }

      -- no block begins, and the thread's ends
      begins_none : (u : ℕ) → opens more u n ≡ false
      begins_none u = opens_by before e false (no_begin before t End refl) u ∙ and_right (t == u) false refl

      ends_own : (u : ℕ) → closes more u n ≡ (t == u)
      ends_own u = closes_by before e true closing u ∙ alone (t == u)
        where
          alone : (b : Bool) → (b && true) ≡ b
          alone true = refl
          alone false = refl

      begins_new : (u : ℕ) → begins_at new u ≡ blocks more u (suc n)
      begins_new u = closed.begins u ∙ tests.begins u ∙ begins_more before e u (begins_at c u) false (begins_none u) (stands.state.begins u)

      inside_new : (u : ℕ) → in_block_at new u ≡ nat_lt 0 (depth more u (suc n))
      inside_new u = closed.in_block u ∙ inside_more before e u (in_block_at now u) false (t == u) (begins_none u) (ends_own u) (tests.in_block u ∙ stands.state.in_block u)

      begin_clock_new : (u : ℕ) → in_block_at new u ≡ true → IsBeginClock more (suc n) u (begin_clock_of new u)
      begin_clock_new u inside = ⊎_elim own other (cases_eq t u)
        where
          own : t ≡ u → IsBeginClock more (suc n) u (begin_clock_of new u)
          own h = absurd (both_ways (in_block_at new u) (closed.in_block u ∙ cond-true (t == u) _ _ (eq-eqb t u h)) inside)

          other : t ≢ u → IsBeginClock more (suc n) u (begin_clock_of new u)
          other ne =
              let apart = ne_eqb t u ne in
              let was = begun u (sym (closed.in_block u ∙ cond-false (t == u) _ _ apart ∙ tests.in_block u) ∙ inside) in
              begin_clock_eq more (suc n) u (begin_clock_of c u) (begin_clock_of new u)
              (λ v. closed.begin_clock u v ∙ cond-false (t == u) _ _ apart ∙ spread.begin_clock u v)
              (begin_clock_kept more n u (begin_clock_of c u) was (ltb-true 0 (depth more u (suc n)) (sym (inside_new u) ∙ inside)))

      -- an end is the last event of no slot but its thread's
      not_kept : (s : Slot) → is_kept s ≡ true → of_slot s e ≡ false
      not_kept (OfThread v) kept = cc
      not_kept (LastWrite x) kept = refl
      not_kept (LastRead x v) kept = and_right (t == v) false refl
      not_kept (LastRelease l) kept = refl

      actor_new : (s : Slot) → is_kept s ≡ true → (state_of new).actor s ≡ actor_at more (last_event more (suc n) s)
      actor_new s kept = closed.actor s ∙ spread.actor s ∙ stands.state.actor s kept ∙ actor_kept before e s (not_kept s kept)

      -- where no block closes, nothing is told
      pub tells_none : Tells new more n None
      tells_none = record {
        told = (told_push_end before e ok (clock_of c) stands.state.untold closing None).0 none_named;
        stands = λ none. record {
          unspent = closed.unspent;
          unclosed = closed.closed ∙ spread.closed;
          state = record {
            untold = untold;
            actor = λ s kept. actor_new s kept ∙ ap (λ m. actor_at more (last_event more m s)) (length_more before e);
            acted = λ u. closed.acted u ∙ acted_more before e u (acted_at now u) (tests.acted u ∙ stands.state.acted u);
            begins = λ u. begins_new u ∙ ap (blocks more u) (length_more before e);
            in_block = λ u. inside_new u ∙ ap (λ m. nat_lt 0 (depth more u m)) (length_more before e);
            begin_clock = λ u inside. subst (λ m. IsBeginClock more m u (begin_clock_of new u)) (length_more before e) (begin_clock_new u inside);
          };
        };
      }
