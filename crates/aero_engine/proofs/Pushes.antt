-- One event put to the end of a trace.
use Rattle.std.proofs.Common.{◌≡◌, ◌↔◌, ℕ, suc, List, [], ◌∷◌, ◌++◌, length, Option, None, refl, subst, le_refl, arith}
use Rattle.std.specs.Prelude.{true, false}
use Rattle.aero_model.specs.declared.numbered.Numbered.{Numbered}
use Rattle.aero_model.specs.Blocks.{closes}
use Rattle.aero_model.specs.Cycle.{HasTellingCycle}
use Rattle.aero_model.specs.Shape.{IsWellFormed}
use Rattle.aero_model.proofs.Telling.{telling_back}
use Rattle.aero_engine.specs.declared.slot.Slot.{Slot}
use Rattle.aero_engine.specs.Takes.{Takes}
use Rattle.aero_engine.specs.Clocks.{Clock, AreSound, MissNothing, greatest, new_clocks, end_clocks}
use Rattle.aero_engine.specs.Judgement.{IsNamed, IsNamedAtEnd, IsTold, IsUntold}
use Rattle.aero_engine.proofs.LongerTraces.{slice_get-push, sound_front, complete_front}
use Rattle.aero_engine.proofs.OneMore.{length_more}
use Rattle.aero_engine.proofs.Rules.{sound_event, complete_event, named_told, sound_end, complete_end, named_told_at_end}

-- of no event
pub untold_start : IsUntold [] (λ s u. 0)
untold_start = record {
  sound = record { at_last = λ s q h. cc; at_none = λ s u h. refl };
  complete = record { at_last = λ s q h. cc };
  none = λ c. let v = (c.2).visit in absurd (omega arith);
}

module _ (trace : List Numbered) (e : Numbered) (ok : IsWellFormed (trace ++ e ∷ [])) (clocks : Slot → Clock) (untold : IsUntold trace clocks) where
  abbrev more : List Numbered
  more = trace ++ e ∷ []

  abbrev n : ℕ
  n = length trace

  sound : AreSound more n clocks
  sound = sound_front trace (e ∷ []) n (le_refl n) clocks untold.sound

  complete : MissNothing more n clocks
  complete = complete_front trace (e ∷ []) n (le_refl n) clocks untold.complete

  none : ¬ HasTellingCycle more n
  none c = untold.none (telling_back trace (e ∷ []) n (le_refl n) c)

  kept : (after : Slot → Clock) → AreSound more (suc n) after → MissNothing more (suc n) after → ¬ HasTellingCycle more (suc n) → IsUntold more after
  kept after s x h = record {
    sound = subst (λ m. AreSound more m after) (length_more trace e) s;
    complete = subst (λ m. MissNothing more m after) (length_more trace e) x;
    none = subst (λ m. ¬ HasTellingCycle more m) (length_more trace e) h;
  }

  -- an event that is no outermost end
  module _ (ss : List Slot) (takes : Takes more n e ss) (no_end : closes more e.thread n ≡ false) where
    pub told_push : (o : Option ℕ) → IsNamed more n e.thread clocks ss o ↔ IsTold more n o
    told_push = named_told more ok n e (slice_get-push trace e) clocks ss takes no_end sound complete none

    pub untold_push : IsNamed more n e.thread clocks ss None → IsUntold more (new_clocks more n e clocks (greatest clocks ss))
    untold_push named =
        kept _
        (sound_event more ok n e (slice_get-push trace e) clocks ss takes sound)
        (complete_event more ok n e (slice_get-push trace e) clocks ss takes no_end complete)
        ((told_push None).0 named)

  -- an outermost end
  module _ (closing : closes more e.thread n ≡ true) where
    pub told_push_end : (o : Option ℕ) → IsNamedAtEnd more n e.thread clocks o ↔ IsTold more n o
    told_push_end = named_told_at_end more ok n e (slice_get-push trace e) clocks closing sound complete none

    pub untold_push_end : IsNamedAtEnd more n e.thread clocks None → IsUntold more (end_clocks more n e.thread clocks)
    untold_push_end named =
        kept _
        (sound_end more ok n e (slice_get-push trace e) clocks closing sound)
        (complete_end more ok n e (slice_get-push trace e) clocks closing complete)
        ((told_push_end None).0 named)
