-- A fork, a join, an outermost begin, and events without a clock rule.
use Rattle.std.proofs.Common.{◌≡◌, ◌≢◌, ◌⊎◌, inl, inr, ⊎_elim, ℕ, ◌+◌, ◌-◌, ◌^◌, ◌<◌, ◌≤◌, List, [], ◌∷◌, ◌++◌, length, Some, None, refl, sym, ap, ◌∙◌, le_refl, arith}
use Rattle.std.specs.Prelude.{Result, Ok, Err, OnOk, IsSome, ◌↔◌, IsTrue, ◌==◌, ◌&&◌, ◌||◌, Bool, true, false, if◌then◌else◌, slice_get, slice_set, is_some, Contains}
use Rattle.std.proofs.lemmas.Bool.{cases_eq, both_ways, eq-eqb, ne_eqb, ltb-false, cond-true, cond-false, and_right, and_from, or_left, or_right}
use Rattle.aero_clock.specs.declared.clock.Clock.{Clock}
use Rattle.aero_clock.specs.Numbers.{number_at, IsRaised}
use Rattle.aero_model.specs.declared.numbered.Numbered.{Numbered}
use Rattle.aero_model.specs.declared.numbered.What.{What}
use Rattle.aero_model.specs.declared.numbered.What.TheVariants.{Fork, Join, Begin, End, Exempt}
use Rattle.aero_model.specs.Blocks.{is_begin, is_end, by_thread, depth, opens, closes}
use Rattle.aero_model.specs.Shape.{is_fork_of, has_acted, IsWellFormed}
use Rattle.aero_model.proofs.Elements.{none_in, here, there, first_or_rest}
use Rattle.aero_model.proofs.Stability.{agree_front}
use Rattle.aero_model.proofs.WellFormed.{well_formed_front}
use Rattle.aero_engine.specs.declared.slot.Slot.{Slot}
use Rattle.aero_engine.specs.declared.slot.Slot.TheVariants.{OfThread, LastWrite, LastRead, LastRelease}
use Rattle.aero_engine.specs.Slots.{of_slot}
use Rattle.aero_engine.specs.Takes.{Takes, plain, join, idle_join}
use Rattle.aero_engine.specs.Takes as taking
use Rattle.aero_engine.specs.Events.{event, IsIdle}
use Rattle.aero_engine.proofs.ThreadSlots.{forked_none}
use Rattle.aero_engine.proofs.LongerTraces.{slice_get-push, last_event_same, no_end, no_begin}
use Rattle.aero_engine.proofs.OneMore.{depth_more, acted_place, place_acted}
use Rattle.aero_engine.proofs.Written.{written, rewritten}
use Rattle.aero_engine.proofs.Rules.{own_count}
use Rattle.aero_engine.specs.Events as idle
use Rattle.aero_access.specs.declared.thread.Thread.{Thread}
use Rattle.aero_access.specs.declared.table.Table.{Table}
use Rattle.aero_access.specs.LastClocks.{is_kept}
use Rattle.aero_access.specs.Threads.{number_in, thread_clock, thread_begin, thread_begins, thread_acted, IsClosedBy, HasSameBlock, TakesClock}
use Rattle.aero_access.specs.States.{State, IsStateOf}
use Rattle.aero_access.specs.StateWords.{clock_in, state_in, acting, Moves}
use Rattle.aero_access.proofs.Outcomes.{not_true}
use Rattle.aero_access.proofs.StateSteps.{IsStep, closing_told, none_judged, stands_after}
use Rattle.aero_access.proofs.OwnSteps.{same_blocks_set, own_step, closed_from, closed_to}
use Rattle.aero_access.proofs.Events.{own_clock, same_clock, same_clocks, same_actors, plain_none, plain_moves}

-- such an event is the last one of no slot that is kept
abbrev pub keeps_nothing : What → Bool
keeps_nothing (Fork u) = true
keeps_nothing (Join u) = true
keeps_nothing (Begin label) = true
keeps_nothing End = true
keeps_nothing Exempt = true
keeps_nothing _ = false

of_none : (t : ℕ) (what : What) → keeps_nothing what ≡ true → (s : Slot) → is_kept s ≡ true → of_slot s (event t what) ≡ false
of_none t (Fork u) h (LastWrite x) k = refl
of_none t (Fork u) h (LastRead x v) k = and_right (t == v) false refl
of_none t (Fork u) h (LastRelease l) k = refl
of_none t (Join u) h (LastWrite x) k = refl
of_none t (Join u) h (LastRead x v) k = and_right (t == v) false refl
of_none t (Join u) h (LastRelease l) k = refl
of_none t (Begin label) h (LastWrite x) k = refl
of_none t (Begin label) h (LastRead x v) k = and_right (t == v) false refl
of_none t (Begin label) h (LastRelease l) k = refl
of_none t End h (LastWrite x) k = refl
of_none t End h (LastRead x v) k = and_right (t == v) false refl
of_none t End h (LastRelease l) k = refl
of_none t Exempt h (LastWrite x) k = refl
of_none t Exempt h (LastRead x v) k = and_right (t == v) false refl
of_none t Exempt h (LastRelease l) k = refl
of_none t _ h _ k = cc

module _ (threads : List Thread) (table : Table) (t : ℕ) (th : Thread) (at : slice_get threads t ≡ Some th) where
  abbrev w : State
  w = state_in threads table

  inside_is : w.in_block t ≡ is_some th.begin
  inside_is = ap (λ o. is_some (thread_begin o)) at

  begin_is : (u : ℕ) → w.begin_clock t u ≡ number_in th.begin u
  begin_is u = ap (λ o. number_in (thread_begin o) u) at

  -- another thread of the list
  module _ (u : ℕ) (target : Thread) (at_u : slice_get threads u ≡ Some target) (copy : Clock) (copied : (v : ℕ) → number_at copy v ≡ number_at th.clock v) (new : Thread) (takes : TakesClock target new (number_at copy)) (same : HasSameBlock target new) where
    -- the thread that is forked has no clock yet
    fork_clock : (h : List Numbered) → IsStateOf w h → IsWellFormed (h ++ event t (Fork u) ∷ []) → (v z : ℕ) → thread_clock (slice_get (slice_set threads u new) v) z ≡ (if of_slot (OfThread v) (event t (Fork u)) then number_at th.clock z else thread_clock (slice_get threads v) z)
    fork_clock h stands ok v z = written threads u target new at_u (λ o. thread_clock o z) v ∙ go (cases_eq u v) (cases_eq t v)
      where
        more : List Numbered
        more = h ++ event t (Fork u) ∷ []

        zero_clock : number_at target.clock z ≡ 0
        zero_clock =
            ap (λ o. thread_clock o z) (sym at_u)
            ∙ stands.untold.sound.at_none (OfThread u) z
            (last_event_same (length h) h more (agree_front (length h) h (event t (Fork u) ∷ []) (le_refl (length h))) (OfThread u)
            ∙ forked_none more ok (length h) u (event t (Fork u)) (slice_get-push h (event t (Fork u))) refl)

        go : (u ≡ v) ⊎ (u ≡ v → ⊥) → (t ≡ v) ⊎ (t ≡ v → ⊥) → (if u == v then number_at new.clock z else thread_clock (slice_get threads v) z) ≡ (if (t == v) || (v == u) then number_at th.clock z else thread_clock (slice_get threads v) z)
        go (inl e) _ =
            cond-true (u == v) _ _ (eq-eqb u v e) ∙ omega (arith, takes.clock z, zero_clock, copied z)
            ∙ sym (cond-true ((t == v) || (v == u)) _ _ (or_right _ _ (eq-eqb v u (sym e))))
        go (inr ne) (inl same_t) =
            cond-false (u == v) _ _ (ne_eqb u v ne) ∙ ap (λ m. thread_clock (slice_get threads m) z) (sym same_t) ∙ ap (λ o. thread_clock o z) at
            ∙ sym (cond-true ((t == v) || (v == u)) _ _ (or_left _ _ (eq-eqb t v same_t)))
        go (inr ne) (inr other) =
            cond-false (u == v) _ _ (ne_eqb u v ne)
            ∙ sym (cond-false ((t == v) || (v == u)) _ _ (neither (t == v) (v == u) (ne_eqb t v other) (ne_eqb v u (λ e. ne (sym e)))))
          where
            neither : (b c : Bool) → b ≡ false → c ≡ false → (b || c) ≡ false
            neither true c h g = h
            neither false c h g = g

    pub fork_moves : Moves w (state_in (slice_set threads u new) table) (event t (Fork u)) false
    fork_moves =
        plain_moves threads table t th at (Fork u) refl refl refl (state_in (slice_set threads u new) table)
        (λ h stands ok.
        own_step threads (slice_set threads u new) table table t (Fork u) (number_at th.clock)
        (fork_clock h stands ok)
        (same_blocks_set threads u target new at_u same)
        (same_clocks table t (number_at th.clock) (Fork u) (of_none t (Fork u) refl))
        (same_actors table t (number_at th.clock) (Fork u) (of_none t (Fork u) refl)))

  module _ (u : ℕ) (other : u ≢ t) (target : Thread) (at_u : slice_get threads u ≡ Some target) (acted : target.acted ≡ true) (copy : Clock) (copied : (v : ℕ) → number_at copy v ≡ number_at target.clock v) where
    joins : (h : List Numbered) → IsStateOf w h → Takes (h ++ event t (Join u) ∷ []) (length h) (event t (Join u)) (OfThread t ∷ OfThread u ∷ [])
    joins h stands = taking.join u refl (acted_place h (event t (Join u)) u (sym (stands.acted u) ∙ ap thread_acted at_u ∙ acted))

    other_slot : OfThread u ≢ OfThread t
    other_slot e = other (cc)

    join_closes : (after : State) → IsClosedBy th.begin (number_at copy) → Moves w after (event t (Join u)) true
    join_closes after closes =
        let closed = closed_to th.begin (number_at copy) closes in
        record {
          told = λ h stands ok is.
              closing_told w h (event t (Join u)) ok stands _ (joins h stands) (no_end h t (Join u) refl) (OfThread u) (there (OfThread t) (OfThread u ∷ []) (here [])) other_slot (inside_is ∙ closed.0)
              (λ v. omega (arith, begin_is v, closed.1 v, copied v, ap (λ o. thread_clock o v) at_u));
          stands = λ h stands ok is. cc;
        }

    join_moves : (new : Thread) → ¬ IsClosedBy th.begin (number_at copy) → TakesClock th new (number_at copy) → HasSameBlock th new → Moves w (state_in (slice_set threads t new) table) (event t (Join u)) false
    join_moves new passes takes same = record {
      told = λ h stands ok is. cc;
      stands = λ h stands ok is.
          stands_after w h (event t (Join u)) ok stands _ (joins h stands) (no_end h t (Join u) refl) (acting (state_in (slice_set threads t new) table) t) false (no_begin h t (Join u) refl) (number_at new.clock)
          (λ v. omega (arith, takes.clock v, copied v, ap (λ o. thread_clock o v) at_u, ap (λ o. thread_clock o v) at))
          (own_step threads (slice_set threads t new) table table t (Join u) (number_at new.clock)
          (own_clock threads t th new at (Join u) (λ v. refl))
          (same_blocks_set threads t th new at same)
          (same_clocks table t (number_at new.clock) (Join u) (of_none t (Join u) refl))
          (same_actors table t (number_at new.clock) (Join u) (of_none t (Join u) refl)))
          (none_judged w h (event t (Join u)) ok stands _ (joins h stands) (no_end h t (Join u) refl) none);
    }
      where
        none : (s : Slot) → Contains (OfThread t ∷ OfThread u ∷ []) s → s ≢ OfThread t → w.in_block t ≡ true → ((v : ℕ) → w.begin_clock t v ≤ w.clock s v) → ⊥
        none s among apart inside at_most =
            ⊎_elim apart
            (λ m.
            ⊎_elim
            (λ e. passes (closed_from th.begin (number_at copy) (sym inside_is ∙ inside)
            (λ v. omega (arith, begin_is v, at_most v, ap (λ r. w.clock r v) e, copied v, ap (λ o. thread_clock o v) at_u))))
            (λ a. absurd (none_in a))
            (first_or_rest (OfThread u) [] m))
            (first_or_rest (OfThread t) (OfThread u ∷ []) among)

    pub join_answer : (new : Thread) (closes : Bool) → (IsTrue closes ↔ IsClosedBy th.begin (number_at copy)) → (closes ≡ false → TakesClock th new (number_at copy)) → HasSameBlock th new → Moves w (state_in (slice_set threads t new) table) (event t (Join u)) closes
    join_answer new true closing takes same = join_closes _ (closing.0 refl)
    join_answer new false closing takes same = join_moves new (λ c. not_true false refl (closing.1 c)) (takes refl) same

  -- an event without a clock rule
  idle_step : (what : What) → keeps_nothing what ≡ true → ((v : ℕ) → is_fork_of v what ≡ false) → IsStep w (acting w t) (event t what) (number_at th.clock) false
  idle_step what nothing none =
      own_step threads threads table table t what (number_at th.clock)
      (same_clock threads t th at what none)
      (record { begin = λ v. refl; begins = λ v. refl; acted = λ v. refl })
      (same_clocks table t (number_at th.clock) what (of_none t what nothing))
      (same_actors table t (number_at th.clock) what (of_none t what nothing))

  idle_stands : (h : List Numbered) (what : What) → IsStateOf w h → IsWellFormed (h ++ event t what ∷ []) → Takes (h ++ event t what ∷ []) (length h) (event t what) (OfThread t ∷ []) → closes (h ++ event t what ∷ []) t (length h) ≡ false → opens (h ++ event t what ∷ []) t (length h) ≡ false → keeps_nothing what ≡ true → ((v : ℕ) → is_fork_of v what ≡ false) → IsStateOf (acting w t) (h ++ event t what ∷ [])
  idle_stands h what stands ok takes ends begins nothing none =
      stands_after w h (event t what) ok stands (OfThread t ∷ []) takes ends (acting w t) false begins (number_at th.clock)
      (λ u. omega (arith, ap (λ o. thread_clock o u) at))
      (idle_step what nothing none)
      (none_judged w h (event t what) ok stands (OfThread t ∷ []) takes ends (λ s m other inside le. plain_none threads table t th at s m other))

  pub idle_moves : (h : List Numbered) (what : What) → IsStateOf w h → IsWellFormed (h ++ event t what ∷ []) → IsIdle h t what → IsStateOf (acting w t) (h ++ event t what ∷ [])
  idle_moves h _ stands ok idle.exempt = idle_stands h Exempt stands ok (plain refl) (no_end h t Exempt refl) (no_begin h t Exempt refl) refl (λ v. refl)
  idle_moves h _ stands ok (idle.inner_begin inside) =
      idle_stands h (Begin None) stands ok (plain refl) (no_end h t (Begin None) refl)
      (and_right (by_thread t is_begin (slice_get (h ++ event t (Begin None) ∷ []) (length h))) (depth (h ++ event t (Begin None) ∷ []) t (length h) == 0)
      (ne_eqb (depth (h ++ event t (Begin None) ∷ []) t (length h)) 0 (λ e. absurd (omega (arith, e, inside, depth_more h (event t (Begin None)) t)))))
      refl (λ v. refl)
  idle_moves h _ stands ok (idle.inner_end inside) =
      idle_stands h End stands ok (plain refl)
      (and_right (by_thread t is_end (slice_get (h ++ event t End ∷ []) (length h))) (depth (h ++ event t End ∷ []) t (length h) == 1)
      (ne_eqb (depth (h ++ event t End ∷ []) t (length h)) 1 (λ e. absurd (omega (arith, e, inside, depth_more h (event t End) t)))))
      (no_begin h t End refl)
      refl (λ v. refl)
  idle_moves h _ stands ok (idle.idle_join u not_acted) =
      idle_stands h (Join u) stands ok (idle_join u refl (λ a. both_ways (has_acted h u) not_acted (place_acted h (event t (Join u)) u a))) (no_end h t (Join u) refl) (no_begin h t (Join u) refl) refl (λ v. refl)

  -- an outermost begin
  module _ (new : Thread) (outside : th.begin ≡ None) (room : th.begins < 2 ^ 32 - 1) (raised : number_at th.clock t < 2 ^ 32 - 1 → (u : ℕ) → number_at new.clock u ≡ (if u == t then number_at th.clock u + 1 else number_at th.clock u)) (begin : (u : ℕ) → number_in new.begin u ≡ number_at new.clock u) (open_now : is_some new.begin ≡ true) (begins : new.begins ≡ th.begins + 1) (acted : new.acted ≡ th.acted) where
    abbrev after : List Thread
    after = slice_set threads t new

    counted : (h : List Numbered) → IsStateOf w h → IsWellFormed (h ++ event t (Begin None) ∷ []) → number_at th.clock t < 2 ^ 32 - 1
    counted h stands ok =
        let own = own_count h (well_formed_front h (event t (Begin None) ∷ []) ok) (length h) w.clock stands.untold.sound stands.untold.complete t in
        omega (arith, own, stands.begins t, ap (λ o. thread_clock o t) at, ap thread_begins at, room)

    is_opening : (h : List Numbered) → IsStateOf w h → opens (h ++ event t (Begin None) ∷ []) t (length h) ≡ true
    is_opening h stands =
        ap (λ a. by_thread t is_begin a && (depth (h ++ event t (Begin None) ∷ []) t (length h) == 0)) (slice_get-push h (event t (Begin None)))
        ∙ and_from _ _ (and_from (t == t) true (eq-eqb t t refl) refl)
        (eq-eqb (depth (h ++ event t (Begin None) ∷ []) t (length h)) 0
        (let none : depth h t (length h) ≤ 0 = ltb-false 0 (depth h t (length h)) (sym (stands.in_block t) ∙ inside_is ∙ ap is_some outside) in omega (arith, none, depth_more h (event t (Begin None)) t)))

    swap_and : {X : Type 0} (b : Bool) (y z : X) → (if b then y else z) ≡ (if b && true then y else z)
    swap_and true y z = refl
    swap_and false y z = refl

    begin_step : (h : List Numbered) → IsStateOf w h → IsWellFormed (h ++ event t (Begin None) ∷ []) → IsStep w (acting (state_in after table) t) (event t (Begin None)) (number_at th.clock) true
    begin_step h stands ok = record {
      clock = clocks;
      actor = same_actors table t (number_at th.clock) (Begin None) (of_none t (Begin None) refl);
      acted = λ u. go_acted u (t == u) (written threads t th new at thread_acted u) (cases_eq t u);
      begins = λ u. rewritten threads t th new at thread_begins (λ m. m + 1) u begins ∙ swap_and (t == u) (thread_begins (slice_get threads u) + 1) (thread_begins (slice_get threads u));
      in_block = λ u. written threads t th new at (λ o. is_some (thread_begin o)) u ∙ ap (λ b. if t == u then b else is_some (thread_begin (slice_get threads u))) open_now ∙ swap_and (t == u) true (is_some (thread_begin (slice_get threads u)));
      begin_clock = λ u v. written threads t th new at (λ o. number_in (thread_begin o) v) u ∙ go_clock u v (cases_eq t u) ∙ swap_and (t == u) (thread_clock (slice_get after u) v) (number_in (thread_begin (slice_get threads u)) v);
    }
      where
        go_acted : (u : ℕ) (b : Bool) → thread_acted (slice_get after u) ≡ (if b then new.acted else thread_acted (slice_get threads u)) → (t ≡ u) ⊎ (t ≡ u → ⊥) → (if b then true else thread_acted (slice_get after u)) ≡ (if b then true else thread_acted (slice_get threads u))
        go_acted u true h c = refl
        go_acted u false h c = h

        go_clock : (u v : ℕ) → (t ≡ u) ⊎ (t ≡ u → ⊥) → (if t == u then number_in new.begin v else number_in (thread_begin (slice_get threads u)) v) ≡ (if t == u then thread_clock (slice_get after u) v else number_in (thread_begin (slice_get threads u)) v)
        go_clock u v (inl e) =
            cond-true (t == u) _ _ (eq-eqb t u e) ∙ begin v
            ∙ sym (written threads t th new at (λ o. thread_clock o v) u ∙ cond-true (t == u) _ _ (eq-eqb t u e))
            ∙ sym (cond-true (t == u) _ _ (eq-eqb t u e))
        go_clock u v (inr ne) = cond-false (t == u) _ _ (ne_eqb t u ne) ∙ sym (cond-false (t == u) _ _ (ne_eqb t u ne))

        own : (v : ℕ) → (t == v) ≡ of_slot (OfThread v) (event t (Begin None))
        own v = go (t == v)
          where
            go : (b : Bool) → b ≡ (b || false)
            go true = refl
            go false = refl

        clocks : (s : Slot) (u : ℕ) → clock_in after table s u ≡ (if of_slot s (event t (Begin None)) then (if u == t then number_at th.clock u + 1 else number_at th.clock u) else clock_in threads table s u)
        clocks (OfThread v) u =
            written threads t th new at (λ o. thread_clock o u) v
            ∙ ap (λ m. if t == v then m else thread_clock (slice_get threads v) u) (raised (counted h stands ok) u)
            ∙ ap (λ b. if b then (if u == t then number_at th.clock u + 1 else number_at th.clock u) else thread_clock (slice_get threads v) u) (own v)
        clocks (LastWrite x) u = refl
        clocks (LastRead x v) u = sym (cond-false ((t == v) && false) _ _ (and_right (t == v) false refl))
        clocks (LastRelease l) u = refl

    pub begin_moves : Moves w (state_in after table) (event t (Begin None)) false
    begin_moves = record {
      told = λ h stands ok is. cc;
      stands = λ h stands ok is.
          stands_after w h (event t (Begin None)) ok stands (OfThread t ∷ []) (plain refl) (no_end h t (Begin None) refl) (acting (state_in after table) t) true (is_opening h stands) (number_at th.clock)
          (λ u. omega (arith, ap (λ o. thread_clock o u) at))
          (begin_step h stands ok)
          (none_judged w h (event t (Begin None)) ok stands (OfThread t ∷ []) (plain refl) (no_end h t (Begin None) refl) (λ s m other inside le. plain_none threads table t th at s m other));
    }

pub begin_answer : (threads : List Thread) (table : Table) (t : ℕ) (th : Thread) (at : slice_get threads t ≡ Some th) (new : Thread) {E : Type 0} (r : Result (Unit {0}) E) → th.begin ≡ None → th.begins < 2 ^ 32 - 1
    → (number_at th.clock t < 2 ^ 32 - 1 → OnOk r (IsRaised new.clock th.clock t)) → OnOk r ((u : ℕ) → number_in new.begin u ≡ number_at new.clock u) → OnOk r (IsSome new.begin) → OnOk r (new.begins ≡ th.begins + 1) → new.acted ≡ th.acted
    → OnOk r (Moves (state_in threads table) (state_in (slice_set threads t new) table) (event t (Begin None)) false)
begin_answer threads table t th at new (Ok x) outside room raised begin opened begins acted = begin_moves threads table t th at new outside room (λ l u. (raised l).at u) begin opened begins acted
begin_answer threads table t th at new (Err e) outside room raised begin opened begins acted = tt
