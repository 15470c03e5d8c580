-- The clock rules and the judgement, in the words of the graph.
use Rattle.std.proofs.Common.{◌≡◌, ◌↔◌, ◌⊎◌, inl, inr, ℕ, suc, ◌<◌, ◌≤◌, List, Option, Some, None, refl, sym, ap, ◌∙◌, subst, arith}
use Rattle.std.specs.Prelude.{true, false, slice_get}
use Rattle.std.proofs.lemmas.Bool.{cases_lt}
use Rattle.std.proofs.lemmas.Option.{same_Some}
use Rattle.aero_model.specs.declared.numbered.Numbered.{Numbered}
use Rattle.aero_model.specs.Blocks.{opens, closes, blocks, Transaction, Block, transaction}
use Rattle.aero_model.specs.Graph.{Visit, IsTelling, BeginsCycle, LeadsTo}
use Rattle.aero_model.specs.Cycle.{HasTellingCycle, IsOpener, IsClosing}
use Rattle.aero_model.specs.Shape.{IsWellFormed}
use Rattle.aero_model.proofs.Places.{in_block}
use Rattle.aero_model.proofs.Walks.{begins_from_returns, returns_from_begins}
use Rattle.aero_model.proofs.Telling.{telling_from_begins, begins_from_telling, none_begins, none_returns, closing_from}
use Rattle.aero_engine.specs.declared.slot.Slot.{Slot}
use Rattle.aero_engine.specs.declared.slot.Slot.TheVariants.{OfThread}
use Rattle.aero_engine.specs.Slots.{last_event}
use Rattle.aero_engine.specs.Takes.{Takes}
use Rattle.aero_engine.specs.Clocks.{Clock, AreSound, MissNothing, IsBeginClock, greatest, new_clock, new_clocks, end_clocks, Clocked}
use Rattle.aero_engine.specs.Clocks as clocked
use Rattle.aero_engine.specs.Judgement.{IsJudged, IsJudgedAtEnd, IsNamed, IsNamedAtEnd, IsTold, Passed}
use Rattle.aero_engine.specs.Judgement as passed
use Rattle.aero_engine.proofs.Sources.{latest, acted_by_block}
use Rattle.aero_engine.proofs.Taken.{stand}
use Rattle.aero_engine.proofs.Counts.{sound_reaches, complete_counts, own_latest, reaches_begun, quiet_from}
use Rattle.aero_engine.proofs.Steps.{sound_after, complete_after}
use Rattle.aero_engine.proofs.EndSteps.{sound_after_end, complete_after_end}
use Rattle.aero_engine.proofs.Judged.{returns_from_judged, judged_from_returns}
use Rattle.aero_engine.proofs.JudgedAtEnd.{returns_from_judged_at_end, judged_from_returns_at_end}
use Rattle.aero_engine.proofs.BeginClocks as begins

-- a sound and complete clock has, of each thread, the number of the last block that leads to the slot's last event
pub counts_exactly : (trace : List Numbered) (n : ℕ) (clocks : Slot → Clock) → AreSound trace n clocks → MissNothing trace n clocks → (s : Slot) (j : ℕ) → last_event trace n s ≡ Some j → (u k : ℕ) → 0 < k → (k ≤ clocks s u) ↔ LeadsTo trace n (Block u k) j
counts_exactly trace n clocks sound complete s j last u k pos = ((sound.at_last s j last).leads u k pos, (complete.at_last s j last).counts u k)

-- it is at least a begin clock in every place exactly where it counts the block that begins there
pub begin_clock_at_most : (trace : List Numbered) (n t : ℕ) (K : Clock) (clocks : Slot → Clock) → IsBeginClock trace n t K → AreSound trace n clocks → MissNothing trace n clocks → (s : Slot) (j : ℕ) → last_event trace n s ≡ Some j → ((u : ℕ) → K u ≤ clocks s u) ↔ (blocks trace t n ≤ clocks s t)
begin_clock_at_most trace n t K clocks b sound complete s j last = begins.begin_clock_at_most trace n t K (clocks s) j b (sound.at_last s j last) (complete.at_last s j last)

-- a sound clock counts no block that has not begun
pub count_at_most : (trace : List Numbered) (n : ℕ) (clocks : Slot → Clock) → AreSound trace n clocks → (s : Slot) (u : ℕ) → clocks s u ≤ blocks trace u n
count_at_most trace n clocks sound s u = go (last_event trace n s) refl (cases_lt 0 (clocks s u))
  where
    go : (o : Option ℕ) → last_event trace n s ≡ o → (0 < clocks s u) ⊎ (clocks s u ≤ 0) → clocks s u ≤ blocks trace u n
    go o last (inr none) = omega arith
    go None last (inl some) = absurd (omega (arith, sound.at_none s u last))
    go (Some j) last (inl some) = reaches_begun trace n u (clocks s u) j (sound_reaches trace n (clocks s) j (sound.at_last s j last) u (clocks s u) some (omega arith))

-- a thread's sound and complete clock counts all its own blocks
pub own_count : (trace : List Numbered) → IsWellFormed trace → (n : ℕ) (clocks : Slot → Clock) → AreSound trace n clocks → MissNothing trace n clocks → (t : ℕ) → clocks (OfThread t) t ≡ blocks trace t n
own_count trace ok n clocks sound complete t = go (cases_lt 0 (blocks trace t n)) (count_at_most trace n clocks sound (OfThread t) t)
  where
    go : (0 < blocks trace t n) ⊎ (blocks trace t n ≤ 0) → clocks (OfThread t) t ≤ blocks trace t n → clocks (OfThread t) t ≡ blocks trace t n
    go (inr none) le = omega arith
    go (inl some) le =
        let l = latest trace ok n t (acted_by_block trace n t some) in
        let counted = complete_counts trace n (clocks (OfThread t)) l.place (complete.at_last (OfThread t) l.place l.last) t (blocks trace t n) (own_latest trace n t (blocks trace t n) l some (omega arith)) in
        omega arith

-- event e at place n, by its thread
module _ (trace : List Numbered) (ok : IsWellFormed trace) (n : ℕ) (e : Numbered) (at : slice_get trace n ≡ Some e) (clocks : Slot → Clock) where
  -- a read, a write, an acquire, a join, or a plain event, which takes the clocks of the slots ss
  module _ (ss : List Slot) (takes : Takes trace n e ss) where
    -- sound clocks stay so, also where there is a telling cycle
    pub sound_event : AreSound trace n clocks → AreSound trace (suc n) (new_clocks trace n e clocks (greatest clocks ss))
    sound_event = sound_after trace n e at clocks ss (stand trace ok n e at ss takes)

    -- at an outermost begin the new clock is the block's begin clock
    pub begin_clock_event : AreSound trace n clocks → MissNothing trace n clocks → opens trace e.thread n ≡ true → IsBeginClock trace (suc n) e.thread (new_clock trace n e.thread (greatest clocks ss))
    begin_clock_event = begins.begin_clock_new trace n e at clocks ss (stand trace ok n e at ss takes)

    -- what is judged begins a telling cycle, also where there was one
    pub judged_begins : AreSound trace n clocks → IsJudged trace n e.thread clocks ss → BeginsCycle trace (suc n) (Block e.thread (blocks trace e.thread n))
    judged_begins sound j = begins_from_returns trace (suc n) _ (returns_from_judged trace ok n e at clocks ss (stand trace ok n e at ss takes) sound j)

    module _ (no_end : closes trace e.thread n ≡ false) where
      -- complete clocks stay so
      pub complete_event : MissNothing trace n clocks → MissNothing trace (suc n) (new_clocks trace n e clocks (greatest clocks ss))
      complete_event = complete_after trace n e at clocks ss (stand trace ok n e at ss takes) (quiet_from trace n e at no_end)

      -- where there was no telling cycle, what begins one is the thread's open block, and it is judged
      pub begins_judged : MissNothing trace n clocks → ¬ HasTellingCycle trace n → (x : Transaction) → BeginsCycle trace (suc n) x → (x ≡ Block e.thread (blocks trace e.thread n)) × IsJudged trace n e.thread clocks ss
      begins_judged complete none x w =
          judged_from_returns trace ok n e at clocks ss (stand trace ok n e at ss takes) complete (quiet_from trace n e at no_end) (none_returns trace n none) x (returns_from_begins trace (suc n) x w)

      module _ (sound : AreSound trace n clocks) (complete : MissNothing trace n clocks) (none : ¬ HasTellingCycle trace n) where
        told : (o : Option ℕ) → IsNamed trace n e.thread clocks ss o → IsTold trace n o
        told None not_judged = λ c. not_judged (begins_judged complete none _ (begins_from_telling trace (suc n) c)).1
        told (Some u) (same, j) =
            let begins = judged_begins sound j in
            let closing = closing_from trace n none (telling_from_begins trace (suc n) _ begins) in
            subst (λ v. IsClosing trace n × IsOpener trace (suc n) v (blocks trace v n)) (sym same) (closing, record { begins = begins; least = least })
          where
            least : (first : Visit) (rest : List Visit) (f : Numbered) → IsTelling trace (suc n) first rest → slice_get trace first.enters ≡ Some f → e.thread ≤ f.thread
            least first rest f telling at_f =
                let b = in_block trace first.enters e.thread (blocks trace e.thread n) (begins_judged complete none (transaction trace first.enters) (first, rest, telling, refl)).0 in
                omega (arith, ap (λ (a : Numbered). a.thread) (same_Some f b.event (sym at_f ∙ b.event_at)), b.thread)

        told_back : (o : Option ℕ) → IsTold trace n o → IsNamed trace n e.thread clocks ss o
        told_back None none_now = λ j. none_now (telling_from_begins trace (suc n) _ (judged_begins sound j))
        told_back (Some u) (closing, opener) =
            let p = begins_judged complete none (Block u (blocks trace u n)) opener.begins in
            let is = p.0 in
            (cc, p.1)

        -- what the clocks name is what is to be told
        pub named_told : (o : Option ℕ) → IsNamed trace n e.thread clocks ss o ↔ IsTold trace n o
        named_told o = (told o, told_back o)

  -- the end of a block
  module _ (closing : closes trace e.thread n ≡ true) where
    -- sound clocks stay so, also where there is a telling cycle
    pub sound_end : AreSound trace n clocks → AreSound trace (suc n) (end_clocks trace n e.thread clocks)
    sound_end = sound_after_end trace ok n e at closing clocks

    -- complete clocks stay so
    pub complete_end : MissNothing trace n clocks → MissNothing trace (suc n) (end_clocks trace n e.thread clocks)
    complete_end = complete_after_end trace ok n e at closing clocks

    -- what is judged begins a telling cycle, also where there was one
    pub judged_begins_at_end : AreSound trace n clocks → (u : ℕ) → IsJudgedAtEnd trace n e.thread clocks u → BeginsCycle trace (suc n) (Block u (blocks trace u n))
    judged_begins_at_end sound u j = begins_from_returns trace (suc n) _ (returns_from_judged_at_end trace ok n e.thread closing clocks sound u j)

    -- where there was no telling cycle, what begins one is a thread's open block, and it is judged
    pub begins_judged_at_end : MissNothing trace n clocks → ¬ HasTellingCycle trace n → (x : Transaction) → BeginsCycle trace (suc n) x → (u : ℕ) × (x ≡ Block u (blocks trace u n)) × IsJudgedAtEnd trace n e.thread clocks u
    begins_judged_at_end complete none x w =
        judged_from_returns_at_end trace ok n e.thread closing clocks complete (none_begins trace n none) x (returns_from_begins trace (suc n) x w)

    module _ (sound : AreSound trace n clocks) (complete : MissNothing trace n clocks) (none : ¬ HasTellingCycle trace n) where
      told_at_end : (o : Option ℕ) → IsNamedAtEnd trace n e.thread clocks o → IsTold trace n o
      told_at_end None not_judged = λ c. let j = begins_judged_at_end complete none _ (begins_from_telling trace (suc n) c) in not_judged j.0 j.2
      told_at_end (Some u) (j, first_one) =
          let begins = judged_begins_at_end sound u j in
          (closing_from trace n none (telling_from_begins trace (suc n) _ begins), record { begins = begins; least = least })
        where
          least : (first : Visit) (rest : List Visit) (f : Numbered) → IsTelling trace (suc n) first rest → slice_get trace first.enters ≡ Some f → u ≤ f.thread
          least first rest f telling at_f =
              let j = begins_judged_at_end complete none (transaction trace first.enters) (first, rest, telling, refl) in
              let b = in_block trace first.enters j.0 (blocks trace j.0 n) j.1 in
              omega (arith, ap (λ (a : Numbered). a.thread) (same_Some f b.event (sym at_f ∙ b.event_at)), b.thread, first_one j.0 j.2)

      told_back_at_end : (o : Option ℕ) → IsTold trace n o → IsNamedAtEnd trace n e.thread clocks o
      told_back_at_end None none_now = λ u j. none_now (telling_from_begins trace (suc n) _ (judged_begins_at_end sound u j))
      told_back_at_end (Some u) (first_event, opener) = (judged, least)
        where
          judged : IsJudgedAtEnd trace n e.thread clocks u
          judged =
              let j = begins_judged_at_end complete none (Block u (blocks trace u n)) opener.begins in
              let is = j.1 in
              let same : j.0 ≡ u = cc in
              subst (IsJudgedAtEnd trace n e.thread clocks) same j.2

          least : (v : ℕ) → IsJudgedAtEnd trace n e.thread clocks v → u ≤ v
          least v j =
              let w = judged_begins_at_end sound v j in
              let b = in_block trace (w.0).enters v (blocks trace v n) w.3 in
              omega (arith, opener.least w.0 w.1 b.event w.2 b.event_at, b.thread)

      -- what the clocks name is what is to be told
      pub named_told_at_end : (o : Option ℕ) → IsNamedAtEnd trace n e.thread clocks o ↔ IsTold trace n o
      named_told_at_end o = (told_at_end o, told_back_at_end o)

-- whole runs, from the empty front of the trace on
module _ (trace : List Numbered) (ok : IsWellFormed trace) where
  -- clocks that follow the rules are sound
  pub clocked_sound : (n : ℕ) (clocks : Slot → Clock) → Clocked trace n clocks → AreSound trace n clocks
  clocked_sound _ _ clocked.start = record { at_last = λ s q h. cc; at_none = λ s u h. refl }
  clocked_sound _ _ (clocked.event n e ss clocks c at no_end takes) = sound_event trace ok n e at clocks ss takes (clocked_sound n clocks c)
  clocked_sound _ _ (clocked.end n e clocks c at closing) = sound_end trace ok n e at clocks closing (clocked_sound n clocks c)

  -- and complete
  pub clocked_complete : (n : ℕ) (clocks : Slot → Clock) → Clocked trace n clocks → MissNothing trace n clocks
  clocked_complete _ _ clocked.start = record { at_last = λ s q h. cc }
  clocked_complete _ _ (clocked.event n e ss clocks c at no_end takes) = complete_event trace ok n e at clocks ss takes no_end (clocked_complete n clocks c)
  clocked_complete _ _ (clocked.end n e clocks c at closing) = complete_end trace ok n e at clocks closing (clocked_complete n clocks c)

  pub passed_clocked : (n : ℕ) (clocks : Slot → Clock) → Passed trace n clocks → Clocked trace n clocks
  passed_clocked _ _ passed.start = clocked.start
  passed_clocked _ _ (passed.event n e ss clocks p at no_end takes j) = clocked.event n e ss clocks (passed_clocked n clocks p) at no_end takes
  passed_clocked _ _ (passed.end n e clocks p at closing j) = clocked.end n e clocks (passed_clocked n clocks p) at closing

  -- where none of the first n events was judged, they have no telling cycle
  pub passed_none : (n : ℕ) (clocks : Slot → Clock) → Passed trace n clocks → ¬ HasTellingCycle trace n
  passed_none _ _ passed.start c = let v = (c.2).visit in absurd (omega arith)
  passed_none _ _ (passed.event n e ss clocks p at no_end takes j) c =
      let q = passed_clocked n clocks p in
      told trace ok n e at clocks ss takes no_end (clocked_sound n clocks q) (clocked_complete n clocks q) (passed_none n clocks p) None j c
  passed_none _ _ (passed.end n e clocks p at closing j) c =
      let q = passed_clocked n clocks p in
      told_at_end trace ok n e at clocks closing (clocked_sound n clocks q) (clocked_complete n clocks q) (passed_none n clocks p) None j c

  -- and what the clocks name with the next event is what is to be told
  module _ (n : ℕ) (e : Numbered) (at : slice_get trace n ≡ Some e) (clocks : Slot → Clock) (p : Passed trace n clocks) where
    pub passed_told : (ss : List Slot) → Takes trace n e ss → closes trace e.thread n ≡ false → (o : Option ℕ) → IsNamed trace n e.thread clocks ss o ↔ IsTold trace n o
    passed_told ss takes no_end =
        let q = passed_clocked n clocks p in
        named_told trace ok n e at clocks ss takes no_end (clocked_sound n clocks q) (clocked_complete n clocks q) (passed_none n clocks p)

    pub passed_told_at_end : closes trace e.thread n ≡ true → (o : Option ℕ) → IsNamedAtEnd trace n e.thread clocks o ↔ IsTold trace n o
    passed_told_at_end closing =
        let q = passed_clocked n clocks p in
        named_told_at_end trace ok n e at clocks closing (clocked_sound n clocks q) (clocked_complete n clocks q) (passed_none n clocks p)
