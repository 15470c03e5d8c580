-- Which last events an event takes: of each, the thread that made it and its place.
use Rattle.std.specs.Prelude.{◌≡◌, ◌≢◌, ℕ, ◌<◌, ◌⊎◌, true, List, [], ◌∷◌, ◌++◌, Some, None, slice_get, Contains}
use Rattle.aero_model.specs.declared.numbered.Numbered.{Numbered}
use Rattle.aero_model.specs.declared.numbered.What.TheVariants.{Read, Write, Acquire, Join}
use Rattle.aero_model.specs.Blocks.{depth, blocks, Block}
use Rattle.aero_model.specs.Graph.{LeadsTo}
use Rattle.aero_engine.specs.declared.slot.Slot.{Slot}
use Rattle.aero_engine.specs.declared.slot.Slot.TheVariants.{OfThread, LastWrite, LastRead, LastRelease}
use Rattle.aero_engine.specs.Slots.{last_event}
use Rattle.aero_engine.specs.Takes.{takes_only_own, HasActed}

pub record Mark : Type 0 where
  pub thread : ℕ
  pub place : ℕ

abbrev pub mark : ℕ → ℕ → Mark
mark o p = record { thread = o; place = p }

module _ (trace : List Numbered) (n : ℕ) where
  -- the slot's last event, if it is of another thread than t
  pub data IfOther (t : ℕ) (s : Slot) : List Mark → Type 0 where
    nobodys : last_event trace n s ≡ None → IfOther t s []
    its_own : (q : ℕ) (f : Numbered) → last_event trace n s ≡ Some q → slice_get trace q ≡ Some f → f.thread ≡ t → IfOther t s []
    other : (q : ℕ) (f : Numbered) → last_event trace n s ≡ Some q → slice_get trace q ≡ Some f → f.thread ≢ t → IfOther t s (mark f.thread q ∷ [])

  -- no open block leads to place q
  abbrev pub IsPassed : ℕ → Type 0
  IsPassed q = (w : ℕ) → 0 < depth trace w n → ¬ LeadsTo trace n (Block w (blocks trace w n)) q

  -- the event at place p is a read of variable x by thread u
  pub record IsReadAt (x u p : ℕ) : Type 0 where
    pub below : p < n
    pub event : Numbered
    pub event_at : slice_get trace p ≡ Some event
    pub thread : event.thread ≡ u
    pub reads : event.what ≡ Read x

  -- reads of the variable by threads other than t, and all last ones that come after its last write and to which an open block leads
  pub record AreReads (t x : ℕ) (ms : List Mark) : Type 0 where
    pub each : (m : Mark) → Contains ms m → (m.thread ≢ t) × IsReadAt x m.thread m.place
    pub all : (u q : ℕ) → u ≢ t → last_event trace n (LastRead x u) ≡ Some q → ((p : ℕ) → last_event trace n (LastWrite x) ≡ Some p → p < q) → Contains ms (mark u q) ⊎ IsPassed q

  -- what event e at place n takes of other threads
  pub data TakesMarks (e : Numbered) : List Mark → Type 0 where
    -- a begin or an end, exempt or not, a release or a fork: nothing
    plain : takes_only_own e.what ≡ true → TakesMarks e []
    -- a read: the last write
    read : (x : ℕ) (ms : List Mark) → e.what ≡ Read x → IfOther e.thread (LastWrite x) ms → TakesMarks e ms
    -- a write: the last write and the last reads; those before the last write, and those to which no open block leads, may be left out,
    -- and earlier reads may be among them
    write : (x : ℕ) (ms rs : List Mark) → e.what ≡ Write x → IfOther e.thread (LastWrite x) ms → AreReads e.thread x rs → TakesMarks e (ms ++ rs)
    -- an acquire: the last release
    acquire : (l : ℕ) (ms : List Mark) → e.what ≡ Acquire l → IfOther e.thread (LastRelease l) ms → TakesMarks e ms
    -- a join: the last event of the thread that is joined, if it has acted
    join : (u q : ℕ) → e.what ≡ Join u → HasActed trace n u → last_event trace n (OfThread u) ≡ Some q → TakesMarks e (mark u q ∷ [])
    idle_join : (u : ℕ) → e.what ≡ Join u → ¬ HasActed trace n u → TakesMarks e []
