-- What the clocks of a whole run say.
use Rattle.std.specs.Prelude.{◌≡◌, ◌↔◌, ℕ, suc, ◌<◌, ◌≤◌, true, false, List, length, Option, Some, None, slice_get}
use Rattle.aero_model.specs.declared.numbered.Numbered.{Numbered}
use Rattle.aero_model.specs.Blocks.{closes, blocks, Block}
use Rattle.aero_model.specs.Cycle.{HasTellingCycle}
use Rattle.aero_model.specs.Graph.{LeadsTo, BeginsCycle}
use Rattle.aero_model.specs.Shape.{IsWellFormed}
use Rattle.aero_engine.specs.declared.slot.Slot.{Slot}
use Rattle.aero_engine.specs.Slots.{last_event}
use Rattle.aero_engine.specs.Takes.{Takes}
use Rattle.aero_engine.specs.Clocks.{Clock, AreSound, IsBeginClock, Clocked}
use Rattle.aero_engine.specs.Judgement.{IsJudged, IsJudgedAtEnd, IsNamed, IsNamedAtEnd, IsTold, Passed}

-- the first events of each trace have clocks by the rules
abbrev pub ClocksExist : Type 0
ClocksExist = (trace : List Numbered) (n : ℕ) → n ≤ length trace → (clocks : Slot → Clock) × Clocked trace n clocks

-- a slot's clock has, of each thread, the number of the last block that leads to the slot's last event
abbrev pub ClocksCountWhatLeads : Type 0
ClocksCountWhatLeads =
    (trace : List Numbered) (n : ℕ) (clocks : Slot → Clock) (s : Slot) (j u k : ℕ)
    → IsWellFormed trace
    → Clocked trace n clocks
    → last_event trace n s ≡ Some j
    → 0 < k
    → (k ≤ clocks s u) ↔ LeadsTo trace n (Block u k) j

-- where none of the first n events was judged, they have no telling cycle
abbrev pub NothingIsMissed : Type 0
NothingIsMissed = (trace : List Numbered) (n : ℕ) (clocks : Slot → Clock) → IsWellFormed trace → Passed trace n clocks → ¬ HasTellingCycle trace n

-- and what the clocks then name with the next event is what is to be told
abbrev pub TheOpenerIsNamed : Type 0
TheOpenerIsNamed =
    (trace : List Numbered) (n : ℕ) (e : Numbered) (ss : List Slot) (clocks : Slot → Clock) (o : Option ℕ)
    → IsWellFormed trace
    → Passed trace n clocks
    → slice_get trace n ≡ Some e
    → closes trace e.thread n ≡ false
    → Takes trace n e ss
    → IsNamed trace n e.thread clocks ss o ↔ IsTold trace n o

abbrev pub TheOpenerIsNamedAtEnd : Type 0
TheOpenerIsNamedAtEnd =
    (trace : List Numbered) (n : ℕ) (e : Numbered) (clocks : Slot → Clock) (o : Option ℕ)
    → IsWellFormed trace
    → Passed trace n clocks
    → slice_get trace n ≡ Some e
    → closes trace e.thread n ≡ true
    → IsNamedAtEnd trace n e.thread clocks o ↔ IsTold trace n o

-- a slot's clock is at least a begin clock in every place exactly where it counts the block
abbrev pub BeginClockIsATest : Type 0
BeginClockIsATest =
    (trace : List Numbered) (n t : ℕ) (clocks : Slot → Clock) (K : Clock) (s : Slot) (j : ℕ)
    → IsWellFormed trace
    → Clocked trace n clocks
    → IsBeginClock trace n t K
    → last_event trace n s ≡ Some j
    → ((u : ℕ) → K u ≤ clocks s u) ↔ (blocks trace t n ≤ clocks s t)

-- a slot with no last event has the zero clock
abbrev pub NoEventNoCount : Type 0
NoEventNoCount = (trace : List Numbered) (n : ℕ) (clocks : Slot → Clock) (s : Slot) (u : ℕ) → IsWellFormed trace → Clocked trace n clocks → last_event trace n s ≡ None → clocks s u ≡ 0

-- what is judged begins a telling cycle, for all sound clocks, whether or not they miss something or there was a telling cycle before
abbrev pub JudgedBegins : Type 0
JudgedBegins =
    (trace : List Numbered) (n : ℕ) (e : Numbered) (ss : List Slot) (clocks : Slot → Clock)
    → IsWellFormed trace
    → AreSound trace n clocks
    → slice_get trace n ≡ Some e
    → Takes trace n e ss
    → IsJudged trace n e.thread clocks ss
    → BeginsCycle trace (suc n) (Block e.thread (blocks trace e.thread n))

abbrev pub JudgedBeginsAtEnd : Type 0
JudgedBeginsAtEnd =
    (trace : List Numbered) (n u : ℕ) (e : Numbered) (clocks : Slot → Clock)
    → IsWellFormed trace
    → AreSound trace n clocks
    → slice_get trace n ≡ Some e
    → closes trace e.thread n ≡ true
    → IsJudgedAtEnd trace n e.thread clocks u
    → BeginsCycle trace (suc n) (Block u (blocks trace u n))
