-- What held of a trace holds where it goes on.
use Rattle.std.proofs.Common.{◌≡◌, ℕ, suc, ◌<◌, ◌≤◌, List, [], ◌∷◌, ◌++◌, length, Some, refl, sym, ap, ◌∙◌, subst, le_refl, arith}
use Rattle.std.specs.Prelude.{◌==◌, ◌&&◌, false, slice_get}
use Rattle.std.proofs.lemmas.Bool.{and_left, and_right}
use Rattle.aero_model.specs.declared.numbered.Numbered.{Numbered}
use Rattle.aero_model.specs.declared.numbered.What.{What}
use Rattle.aero_model.specs.Blocks.{is_begin, is_end, by_thread, depth, opens, closes, Block}
use Rattle.aero_model.proofs.Stability.{Agree, agree_front, agree_back, depth_same, opens_same, blocks_same}
use Rattle.aero_model.proofs.Walks.{leads_same}
use Rattle.aero_engine.specs.declared.slot.Slot.{Slot}
use Rattle.aero_engine.specs.Slots.{of_slot, last_event}
use Rattle.aero_engine.specs.Events.{event}
use Rattle.aero_engine.specs.Clocks.{Clock, IsSound, MissesNothing, AreSound, MissNothing, IsBeginClock}
use Rattle.aero_engine.proofs.LastEvents.{last_same}

-- the event that is put to the end
pub slice_get-push : (trace : List Numbered) (e : Numbered) → slice_get (trace ++ e ∷ []) (length trace) ≡ Some e
slice_get-push [] e = refl
slice_get-push (x ∷ trace) e = slice_get-push trace e

-- in traces that agree
module _ (n : ℕ) (a b : List Numbered) (h : Agree n a b) where
  pub last_event_same : (s : Slot) → last_event a n s ≡ last_event b n s
  last_event_same s = last_same (of_slot s) n a b h

  is_sound_same : (K : Clock) (j : ℕ) → IsSound a n K j → IsSound b n K j
  is_sound_same K j sound = record { leads = λ u k pos le. leads_same n a b h n (le_refl n) (Block u k) j (sound.leads u k pos le) }

  misses_nothing_same : (K : Clock) (j : ℕ) → MissesNothing a n K j → MissesNothing b n K j
  misses_nothing_same K j complete = record { counts = λ u k l. complete.counts u k (leads_same n b a (agree_back n a b h) n (le_refl n) (Block u k) j l) }

  pub sound_same : (clocks : Slot → Clock) → AreSound a n clocks → AreSound b n clocks
  sound_same clocks sound = record {
    at_last = λ s j last. is_sound_same (clocks s) j (sound.at_last s j (last_event_same s ∙ last));
    at_none = λ s u last. sound.at_none s u (last_event_same s ∙ last);
  }

  pub complete_same : (clocks : Slot → Clock) → MissNothing a n clocks → MissNothing b n clocks
  complete_same clocks complete = record { at_last = λ s j last. misses_nothing_same (clocks s) j (complete.at_last s j (last_event_same s ∙ last)) }

  pub begin_clock_same : (t : ℕ) (K : Clock) → IsBeginClock a n t K → IsBeginClock b n t K
  begin_clock_same t K c = record {
    is_open = subst (λ d. 0 < d) (depth_same a b t n h) c.is_open;
    place = c.place;
    below = c.below;
    begun = sym (opens_same n a b h t c.place c.below) ∙ c.begun;
    number = sym (blocks_same n a b h t (suc c.place) c.below) ∙ c.number ∙ blocks_same n a b h t n (le_refl n);
    sound = is_sound_same K c.place c.sound;
    counts = subst (λ k. k ≤ K t) (blocks_same n a b h t n (le_refl n)) c.counts;
  }

-- where more events follow the first n
module _ (trace more : List Numbered) (n : ℕ) (within : n ≤ length trace) (clocks : Slot → Clock) where
  pub sound_front : AreSound trace n clocks → AreSound (trace ++ more) n clocks
  sound_front = sound_same n trace (trace ++ more) (agree_front n trace more within) clocks

  pub complete_front : MissNothing trace n clocks → MissNothing (trace ++ more) n clocks
  complete_front = complete_same n trace (trace ++ more) (agree_front n trace more within) clocks

-- smaller clocks are sound too
pub sound_less : (trace : List Numbered) (n : ℕ) (c d : Slot → Clock) → ((s : Slot) (u : ℕ) → d s u ≤ c s u) → AreSound trace n c → AreSound trace n d
sound_less trace n c d less sound = record {
  at_last = λ s j last. record { leads = λ u k pos le. (sound.at_last s j last).leads u k pos (omega (arith, less s u)) };
  at_none = λ s u last. omega (arith, less s u, sound.at_none s u last);
}

-- and greater ones complete
pub complete_greater : (trace : List Numbered) (n : ℕ) (c d : Slot → Clock) → ((s : Slot) (u : ℕ) → c s u ≤ d s u) → MissNothing trace n c → MissNothing trace n d
complete_greater trace n c d less complete = record { at_last = λ s j last. record { counts = λ u k l. omega (arith, less s u, (complete.at_last s j last).counts u k l) } }

-- the event ends and begins no block
pub no_end : (h : List Numbered) (t : ℕ) (what : What) → is_end what ≡ false → closes (h ++ event t what ∷ []) t (length h) ≡ false
no_end h t what other =
    ap (λ a. by_thread t is_end a && (depth (h ++ event t what ∷ []) t (length h) == 1)) (slice_get-push h (event t what))
    ∙ and_left _ _ (and_right (t == t) (is_end what) other)

pub no_begin : (h : List Numbered) (t : ℕ) (what : What) → is_begin what ≡ false → opens (h ++ event t what ∷ []) t (length h) ≡ false
no_begin h t what other =
    ap (λ a. by_thread t is_begin a && (depth (h ++ event t what ∷ []) t (length h) == 0)) (slice_get-push h (event t what))
    ∙ and_left _ _ (and_right (t == t) (is_begin what) other)
