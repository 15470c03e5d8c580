-- Near events: a few of those that conflict, from which all of them follow.
use Rattle.std.specs.Prelude.{◌≡◌, ◌≢◌, ℕ, ◌<◌, ◌==◌, List, Some, slice_get}
use Rattle.aero_model.specs.declared.numbered.Numbered.{Numbered}
use Rattle.aero_model.specs.declared.numbered.What.TheVariants.{Read, Write, Acquire, Join}
use Rattle.aero_engine.specs.declared.slot.Slot.TheVariants.{OfThread, LastWrite, LastRelease}
use Rattle.aero_engine.specs.Slots.{last_of, last_event}

module _ (trace : List Numbered) where
  -- no event between the places writes the variable
  abbrev pub NoWriteBetween : ℕ → ℕ → ℕ → Type 0
  NoWriteBetween x i j = (k : ℕ) (f : Numbered) → i < k → k < j → slice_get trace k ≡ Some f → f.what ≢ Write x

  -- the event at place i is one of those that the event at place j looks back to
  pub data Near (i j : ℕ) : Type 0 where
    -- the last event of its thread, or the fork of it
    own : (e : Numbered) → slice_get trace j ≡ Some e → last_event trace j (OfThread e.thread) ≡ Some i → Near i j
    -- the last write of what it reads or writes
    read : (e : Numbered) (x : ℕ) → slice_get trace j ≡ Some e → e.what ≡ Read x → last_event trace j (LastWrite x) ≡ Some i → Near i j
    write : (e : Numbered) (x : ℕ) → slice_get trace j ≡ Some e → e.what ≡ Write x → last_event trace j (LastWrite x) ≡ Some i → Near i j
    -- each read, since the last write, of what it writes
    write_after_read : (d e : Numbered) (x : ℕ) → i < j → slice_get trace i ≡ Some d → d.what ≡ Read x → slice_get trace j ≡ Some e → e.what ≡ Write x → NoWriteBetween x i j → Near i j
    -- the last release of the lock that it acquires
    acquire : (e : Numbered) (l : ℕ) → slice_get trace j ≡ Some e → e.what ≡ Acquire l → last_event trace j (LastRelease l) ≡ Some i → Near i j
    -- the last event of the thread that it joins
    join : (e : Numbered) (u : ℕ) → slice_get trace j ≡ Some e → e.what ≡ Join u → last_of (λ f. f.thread == u) trace j ≡ Some i → Near i j

  -- near events lead from place i to a later one
  pub data Chain (i : ℕ) : ℕ → Type 0 where
    one : (j : ℕ) → Near i j → Chain i j
    further : (j k : ℕ) → Chain i j → Near j k → Chain i k
