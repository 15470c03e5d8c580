-- Clocks: how many blocks of each thread lead to an event.
use Rattle.std.specs.Prelude.{◌≡◌, ℕ, suc, ◌+◌, ◌<◌, ◌≤◌, ◌==◌, nat_le, true, false, if◌then◌else◌, max, List, [], ◌∷◌, Some, None, slice_get}
use Rattle.aero_model.specs.declared.numbered.Numbered.{Numbered}
use Rattle.aero_model.specs.Blocks.{depth, opens, closes, blocks, Block}
use Rattle.aero_model.specs.Graph.{LeadsTo}
use Rattle.aero_engine.specs.declared.slot.Slot.{Slot}
use Rattle.aero_engine.specs.declared.slot.Slot.TheVariants.{OfThread}
use Rattle.aero_engine.specs.Slots.{of_slot, last_event}
use Rattle.aero_engine.specs.Takes.{Takes}

-- a number for each thread
abbrev pub Clock : Type 0
Clock = ℕ → ℕ

module _ (trace : List Numbered) (n : ℕ) where
  -- each block that the clock counts leads to place j
  pub record IsSound (K : Clock) (j : ℕ) : Type 0 where
    pub leads : (u k : ℕ) → 0 < k → k ≤ K u → LeadsTo trace n (Block u k) j

  -- the clock counts each block that leads to place j
  pub record MissesNothing (K : Clock) (j : ℕ) : Type 0 where
    pub counts : (u k : ℕ) → LeadsTo trace n (Block u k) j → k ≤ K u

  -- each slot's clock is sound for its last event, and zero where it has none
  pub record AreSound (clocks : Slot → Clock) : Type 0 where
    pub at_last : (s : Slot) (j : ℕ) → last_event trace n s ≡ Some j → IsSound (clocks s) j
    pub at_none : (s : Slot) (u : ℕ) → last_event trace n s ≡ None → clocks s u ≡ 0

  -- each slot's clock is complete for its last event
  pub record MissNothing (clocks : Slot → Clock) : Type 0 where
    pub at_last : (s : Slot) (j : ℕ) → last_event trace n s ≡ Some j → MissesNothing (clocks s) j

  -- the clock of thread t as its open block began: sound for the begin, and it counts the block
  pub record IsBeginClock (t : ℕ) (K : Clock) : Type 0 where
    pub is_open : 0 < depth trace t n
    pub place : ℕ
    pub below : place < n
    pub begun : opens trace t place ≡ true
    pub number : blocks trace t (suc place) ≡ blocks trace t n
    pub sound : IsSound K place
    pub counts : blocks trace t n ≤ K t

-- the greatest of the slots' clocks in every place
abbrev pub greatest : (Slot → Clock) → List Slot → Clock
greatest clocks [] u = 0
greatest clocks (s ∷ ss) u = max (clocks s u) (greatest clocks ss u)

-- the clock with 1 more at thread t
abbrev pub raised : ℕ → Clock → Clock
raised t K u = if u == t then K u + 1 else K u

-- the clock of thread t after its event at place n: an outermost begin counts one block more
abbrev pub new_clock : List Numbered → ℕ → ℕ → Clock → Clock
new_clock trace n t K = if opens trace t n then raised t K else K

-- the clocks after event e at place n: the slots whose last event it is get the actor's new clock
abbrev pub new_clocks : List Numbered → ℕ → Numbered → (Slot → Clock) → Clock → Slot → Clock
new_clocks trace n e clocks K s = if of_slot s e then new_clock trace n e.thread K else clocks s

-- the clock K, joined with C where it counts block b of thread t
abbrev pub end_clock : Clock → ℕ → ℕ → Clock → Clock
end_clock C t b K u = if nat_le b (K t) then max (K u) (C u) else K u

-- the clocks after the end of thread t's block at place n: those that count the block are joined with the clock of t
abbrev pub end_clocks : List Numbered → ℕ → ℕ → (Slot → Clock) → Slot → Clock
end_clocks trace n t clocks s = end_clock (clocks (OfThread t)) t (blocks trace t n) (clocks s)

-- the clocks after the first n events, by the rules
pub data Clocked (trace : List Numbered) : ℕ → (Slot → Clock) → Type 0 where
  start : Clocked trace 0 (λ s u. 0)
  event : (n : ℕ) (e : Numbered) (ss : List Slot) (clocks : Slot → Clock) → Clocked trace n clocks → slice_get trace n ≡ Some e → closes trace e.thread n ≡ false → Takes trace n e ss → Clocked trace (suc n) (new_clocks trace n e clocks (greatest clocks ss))
  end : (n : ℕ) (e : Numbered) (clocks : Slot → Clock) → Clocked trace n clocks → slice_get trace n ≡ Some e → closes trace e.thread n ≡ true → Clocked trace (suc n) (end_clocks trace n e.thread clocks)
