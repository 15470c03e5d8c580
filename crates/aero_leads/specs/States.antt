-- What a trace says of what is kept of it.
use Rattle.std.specs.Prelude.{◌≡◌, ◌==◌, ℕ, zero, suc, ◌<◌, ◌⊎◌, nat_lt, Bool, true, false, if◌then◌else◌, List, ◌++◌, ◌∷◌, [], length, Some, None, Contains}
use Rattle.aero_model.specs.declared.numbered.Numbered.{Numbered}
use Rattle.aero_model.specs.Blocks.{depth, blocks}
use Rattle.aero_model.specs.Cycle.{HasTellingCycle}
use Rattle.aero_model.specs.Shape.{has_acted, IsWellFormed}
use Rattle.aero_engine.specs.declared.slot.Slot.{Slot}
use Rattle.aero_engine.specs.declared.slot.Slot.TheVariants.{LastWrite, LastRead, LastRelease}
use Rattle.aero_engine.specs.Slots.{last_event}
use Rattle.aero_engine.specs.Events.{actor_at}
use Rattle.aero_engine.specs.Judgement.{IsTold}
use Rattle.aero_leads.specs.declared.last.Last.{Last}
use Rattle.aero_leads.specs.Leads.{Rows, IsUnled, AreFirst}
use Rattle.aero_leads.specs.Marks.{IsReadAt}
use Rattle.aero_leads.specs.Kept.{last}

-- What is kept of a trace
pub record State : Type 0 where
  -- the first places
  pub rows : Rows
  -- of each variable the last write, and reads since; of each lock the last release
  pub write : ℕ → Last
  pub reads : ℕ → List Last
  pub release : ℕ → Last
  -- how many events there are
  pub now : ℕ
  -- whether the thread has made an event, its outermost begins, whether it is in a block
  pub acted : ℕ → Bool
  pub begins : ℕ → ℕ
  pub in_block : ℕ → Bool

module _ (trace : List Numbered) where
  -- the slot's last event is by thread t, and the one with which there are so many events: none where these are 0
  abbrev pub IsLastAt : Slot → ℕ → ℕ → Type 0
  IsLastAt s t zero = last_event trace (length trace) s ≡ None
  IsLastAt s t (suc p) = (last_event trace (length trace) s ≡ Some p) × (actor_at trace (Some p) ≡ Some t)

  abbrev pub IsLastOf : Slot → Last → Type 0
  IsLastOf s l = IsLastAt s l.thread l.count

  -- reads of the variable, and all last ones that come after its last write and to which an open block may lead
  pub record AreReadsSince (rows : Rows) (x : ℕ) (ls : List Last) : Type 0 where
    pub each : (l : Last) → Contains ls l → (p : ℕ) × (l.count ≡ suc p) × IsReadAt trace (length trace) x l.thread p
    pub all : (u q : ℕ) → last_event trace (length trace) (LastRead x u) ≡ Some q → ((p : ℕ) → last_event trace (length trace) (LastWrite x) ≡ Some p → p < q) → Contains ls (last u (suc q)) ⊎ IsUnled rows u q

-- the state agrees with the trace, and there is no telling cycle
pub record IsStateOf (w : State) (trace : List Numbered) : Type 0 where
  pub first : AreFirst trace (length trace) w.rows
  pub none : ¬ HasTellingCycle trace (length trace)
  pub write : (x : ℕ) → IsLastOf trace (LastWrite x) (w.write x)
  pub reads : (x : ℕ) → AreReadsSince trace w.rows x (w.reads x)
  pub release : (l : ℕ) → IsLastOf trace (LastRelease l) (w.release l)
  pub now : w.now ≡ length trace
  pub acted : (t : ℕ) → w.acted t ≡ has_acted trace t
  pub begins : (t : ℕ) → w.begins t ≡ blocks trace t (length trace)
  pub in_block : (t : ℕ) → w.in_block t ≡ nat_lt 0 (depth trace t (length trace))

-- thread t has made an event, and nothing else is new
abbrev pub acting : State → ℕ → State
acting w t = record w { acted = λ u. if t == u then true else w.acted u; now = suc w.now }

-- the state moves by the event: either its thread's open block is to be told, or the state is right for the longer trace once the thread has acted
pub record Moves (old new : State) (e : Numbered) (closes : Bool) : Type 0 where
  pub told : (h : List Numbered) → IsStateOf old h → IsWellFormed (h ++ e ∷ []) → closes ≡ true → IsTold (h ++ e ∷ []) (length h) (Some e.thread)
  pub stands : (h : List Numbered) → IsStateOf old h → IsWellFormed (h ++ e ∷ []) → closes ≡ false → IsStateOf (acting new e.thread) (h ++ e ∷ [])
