-- What a trace says of the clocks that are kept of it.
use Rattle.std.specs.Prelude.{◌≡◌, ℕ, nat_lt, Bool, true, List, length, Option}
use Rattle.aero_model.specs.declared.numbered.Numbered.{Numbered}
use Rattle.aero_model.specs.Blocks.{depth, blocks}
use Rattle.aero_model.specs.Shape.{has_acted}
use Rattle.aero_engine.specs.declared.slot.Slot.{Slot}
use Rattle.aero_engine.specs.Slots.{last_event}
use Rattle.aero_engine.specs.Events.{actor_at}
use Rattle.aero_engine.specs.Clocks.{IsBeginClock}
use Rattle.aero_engine.specs.Judgement.{IsUntold}
use Rattle.aero_access.specs.LastClocks.{is_kept}

-- What is kept of a trace
pub record State : Type 0 where
  -- each slot's clock
  pub clock : Slot → ℕ → ℕ
  -- by which thread a slot's last event is, for slots that are no threads
  pub actor : Slot → Option ℕ
  -- whether the thread has made an event, its outermost begins, whether it is in a block, and that block's begin clock
  pub acted : ℕ → Bool
  pub begins : ℕ → ℕ
  pub in_block : ℕ → Bool
  pub begin_clock : ℕ → ℕ → ℕ

-- the state agrees with the trace, its clocks are sound and miss nothing, and there is no telling cycle
pub record IsStateOf (w : State) (trace : List Numbered) : Type 0 where
  pub untold : IsUntold trace w.clock
  pub actor : (s : Slot) → is_kept s ≡ true → w.actor s ≡ actor_at trace (last_event trace (length trace) s)
  pub acted : (t : ℕ) → w.acted t ≡ has_acted trace t
  pub begins : (t : ℕ) → w.begins t ≡ blocks trace t (length trace)
  pub in_block : (t : ℕ) → w.in_block t ≡ nat_lt 0 (depth trace t (length trace))
  pub begin_clock : (t : ℕ) → w.in_block t ≡ true → IsBeginClock trace (length trace) t (w.begin_clock t)
