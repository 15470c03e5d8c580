-- Which slots' clocks an event takes.
use Rattle.std.specs.Prelude.{◌≡◌, ◌≢◌, ℕ, ◌<◌, Bool, true, false, List, [], ◌∷◌, ◌++◌, map, Contains, Some, None, slice_get}
use Rattle.aero_model.specs.declared.numbered.Numbered.{Numbered}
use Rattle.aero_model.specs.declared.numbered.What.{What}
use Rattle.aero_model.specs.declared.numbered.What.TheVariants.{Read, Write, Acquire, Join}
use Rattle.aero_engine.specs.declared.slot.Slot.{Slot}
use Rattle.aero_engine.specs.declared.slot.Slot.TheVariants.{OfThread, LastWrite, LastRead, LastRelease}
use Rattle.aero_engine.specs.Slots.{last_event}

-- the event takes no clock but its thread's own: a begin or an end, exempt or not, a release or a fork
abbrev pub takes_only_own : What → Bool
takes_only_own (Read x) = false
takes_only_own (Write x) = false
takes_only_own (Acquire l) = false
takes_only_own (Join u) = false
takes_only_own _ = true

module _ (trace : List Numbered) (n : ℕ) where
  -- the thread has an event among the first n
  pub record HasActed (t : ℕ) : Type 0 where
    pub place : ℕ
    pub below : place < n
    pub event : Numbered
    pub event_at : slice_get trace place ≡ Some event
    pub thread : event.thread ≡ t

  -- the slot, if its last event is of another thread than t
  pub data IfForeign (t : ℕ) (s : Slot) : List Slot → Type 0 where
    nobodys : last_event trace n s ≡ None → IfForeign t s []
    its_own : (q : ℕ) (f : Numbered) → last_event trace n s ≡ Some q → slice_get trace q ≡ Some f → f.thread ≡ t → IfForeign t s []
    foreign : (q : ℕ) (f : Numbered) → last_event trace n s ≡ Some q → slice_get trace q ≡ Some f → f.thread ≢ t → IfForeign t s (s ∷ [])

  -- each read of the variable among the first n events is of a thread of the list or of t, and t is not in the list
  pub record AreReaders (t x : ℕ) (us : List ℕ) : Type 0 where
    pub all : (q : ℕ) (f : Numbered) → q < n → slice_get trace q ≡ Some f → f.what ≡ Read x → f.thread ≢ t → Contains us f.thread
    pub apart : ¬ Contains us t

  -- the slots whose clocks event e at place n takes
  pub data Takes (e : Numbered) : List Slot → Type 0 where
    -- a begin or an end, exempt or not, a release or a fork: its own thread's clock alone
    plain : takes_only_own e.what ≡ true → Takes e (OfThread e.thread ∷ [])
    -- a read: the last write's too
    read : (x : ℕ) (ss : List Slot) → e.what ≡ Read x → IfForeign e.thread (LastWrite x) ss → Takes e (OfThread e.thread ∷ ss)
    -- a write: the last write's and the last reads'
    write : (x : ℕ) (ss : List Slot) (us : List ℕ) → e.what ≡ Write x → IfForeign e.thread (LastWrite x) ss → AreReaders e.thread x us → Takes e (OfThread e.thread ∷ (ss ++ map (LastRead x) us))
    -- an acquire: the last release's
    acquire : (l : ℕ) (ss : List Slot) → e.what ≡ Acquire l → IfForeign e.thread (LastRelease l) ss → Takes e (OfThread e.thread ∷ ss)
    -- a join: the clock of the thread that is joined, if it has acted
    join : (u : ℕ) → e.what ≡ Join u → HasActed u → Takes e (OfThread e.thread ∷ OfThread u ∷ [])
    idle_join : (u : ℕ) → e.what ≡ Join u → ¬ HasActed u → Takes e (OfThread e.thread ∷ [])
