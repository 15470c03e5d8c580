-- What the clocks say of the event at place n, and what is to be told.
use Rattle.std.specs.Prelude.{◌≡◌, ◌≢◌, ℕ, suc, ◌<◌, ◌≤◌, true, false, List, length, Contains, Option, Some, None, slice_get}
use Rattle.aero_model.specs.declared.numbered.Numbered.{Numbered}
use Rattle.aero_model.specs.Blocks.{depth, closes, blocks}
use Rattle.aero_model.specs.Cycle.{HasTellingCycle, IsOpener, IsClosing}
use Rattle.aero_engine.specs.declared.slot.Slot.{Slot}
use Rattle.aero_engine.specs.declared.slot.Slot.TheVariants.{OfThread}
use Rattle.aero_engine.specs.Takes.{Takes}
use Rattle.aero_engine.specs.Clocks.{Clock, AreSound, MissNothing, greatest, new_clocks, end_clocks}

module _ (trace : List Numbered) (n t : ℕ) (clocks : Slot → Clock) where
  -- at an event of thread t that takes the clocks of these slots: t has an open block, and a slot but t's own counts it
  pub record IsJudged (ss : List Slot) : Type 0 where
    pub is_open : 0 < depth trace t n
    pub slot : Slot
    pub among : Contains ss slot
    pub other : slot ≢ OfThread t
    pub counted : blocks trace t n ≤ clocks slot t

  -- at the end of a block of thread t: another thread u has an open block that t's clock counts, and its clock counts the block that ends
  pub record IsJudgedAtEnd (u : ℕ) : Type 0 where
    pub other : u ≢ t
    pub is_open : 0 < depth trace u n
    pub taken : blocks trace u n ≤ clocks (OfThread t) u
    pub given : blocks trace t n ≤ clocks (OfThread u) t

  -- the thread that the clocks name
  abbrev pub IsNamed : List Slot → Option ℕ → Type 0
  IsNamed ss None = ¬ IsJudged ss
  IsNamed ss (Some u) = (u ≡ t) × IsJudged ss

  -- the least one
  abbrev pub IsNamedAtEnd : Option ℕ → Type 0
  IsNamedAtEnd None = (u : ℕ) → ¬ IsJudgedAtEnd u
  IsNamedAtEnd (Some u) = IsJudgedAtEnd u × ((v : ℕ) → IsJudgedAtEnd v → u ≤ v)

-- what is to be told with the event at place n: nothing, or that it is the closing event, and whose open block is the opener
abbrev pub IsTold : List Numbered → ℕ → Option ℕ → Type 0
IsTold trace n None = ¬ HasTellingCycle trace (suc n)
IsTold trace n (Some u) = IsClosing trace n × IsOpener trace (suc n) u (blocks trace u n)

-- the clocks after the first n events, of which none was judged
pub data Passed (trace : List Numbered) : ℕ → (Slot → Clock) → Type 0 where
  start : Passed trace 0 (λ s u. 0)
  event : (n : ℕ) (e : Numbered) (ss : List Slot) (clocks : Slot → Clock) → Passed trace n clocks → slice_get trace n ≡ Some e → closes trace e.thread n ≡ false → Takes trace n e ss → IsNamed trace n e.thread clocks ss None → Passed trace (suc n) (new_clocks trace n e clocks (greatest clocks ss))
  end : (n : ℕ) (e : Numbered) (clocks : Slot → Clock) → Passed trace n clocks → slice_get trace n ≡ Some e → closes trace e.thread n ≡ true → IsNamedAtEnd trace n e.thread clocks None → Passed trace (suc n) (end_clocks trace n e.thread clocks)

-- what holds while nothing is told
pub record IsUntold (trace : List Numbered) (clocks : Slot → Clock) : Type 0 where
  pub sound : AreSound trace (length trace) clocks
  pub complete : MissNothing trace (length trace) clocks
  pub none : ¬ HasTellingCycle trace (length trace)
