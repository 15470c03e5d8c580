-- What is kept by a list of threads and a table.
use Rattle.std.specs.Prelude.{◌≡◌, ◌≢◌, ℕ, ◌-◌, nat_lt, ◌==◌, max, Bool, true, false, if◌then◌else◌, List, [], ◌∷◌, ◌++◌, length, Option, Some, None, slice_get, is_some}
use Rattle.aero_clock.specs.declared.clock.Clock.{Clock}
use Rattle.aero_clock.specs.Numbers.{number_at}
use Rattle.aero_model.specs.declared.numbered.Numbered.{Numbered}
use Rattle.aero_model.specs.Shape.{IsWellFormed}
use Rattle.aero_engine.specs.declared.slot.Slot.{Slot}
use Rattle.aero_engine.specs.declared.slot.Slot.TheVariants.{OfThread, LastWrite, LastRead, LastRelease}
use Rattle.aero_engine.specs.Judgement.{IsTold}
use Rattle.aero_access.specs.declared.kept.Kept.{Kept}
use Rattle.aero_access.specs.declared.thread.Thread.{Thread}
use Rattle.aero_access.specs.declared.table.Table.{Table}
use Rattle.aero_access.specs.LastClocks.{kept_clock, kept_thread, clock_but, same_slot}
use Rattle.aero_access.specs.Threads.{number_in, thread_clock, thread_begin, thread_begins, thread_acted, IsClosedBy}
use Rattle.aero_access.specs.TableWords.{kept_of, labels_of}
use Rattle.aero_access.specs.States.{State, IsStateOf}

abbrev pub clock_in : List Thread → Table → Slot → ℕ → ℕ
clock_in threads table (OfThread t) u = thread_clock (slice_get threads t) u
clock_in threads table (LastWrite x) u = kept_clock (kept_of table (LastWrite x)) u
clock_in threads table (LastRead x t) u = kept_clock (kept_of table (LastRead x t)) u
clock_in threads table (LastRelease l) u = kept_clock (kept_of table (LastRelease l)) u

abbrev pub state_in : List Thread → Table → State
state_in threads table =
    record {
      clock = clock_in threads table;
      actor = λ s. kept_thread (kept_of table s);
      acted = λ t. thread_acted (slice_get threads t);
      begins = λ t. thread_begins (slice_get threads t);
      in_block = λ t. is_some (thread_begin (slice_get threads t));
      begin_clock = λ t u. number_in (thread_begin (slice_get threads t)) u;
    }

-- thread t has made an event, and nothing else is new
abbrev pub acting : State → ℕ → State
acting w t = record w { acted = λ u. if t == u then true else w.acted u }

-- the state moves by the event: either its thread's open block is to be told, or the state is right for the longer trace once the thread has acted
pub record Moves (old new : State) (e : Numbered) (closes : Bool) : Type 0 where
  pub told : (h : List Numbered) → IsStateOf old h → IsWellFormed (h ++ e ∷ []) → closes ≡ true → IsTold (h ++ e ∷ []) (length h) (Some e.thread)
  pub stands : (h : List Numbered) → IsStateOf old h → IsWellFormed (h ++ e ∷ []) → closes ≡ false → IsStateOf (acting new e.thread) (h ++ e ∷ [])

-- blocks and events made are the same
pub record HaveSameBlocks (old new : List Thread) : Type 0 where
  pub begin : (t : ℕ) → thread_begin (slice_get new t) ≡ thread_begin (slice_get old t)
  pub begins : (t : ℕ) → thread_begins (slice_get new t) ≡ thread_begins (slice_get old t)
  pub acted : (t : ℕ) → thread_acted (slice_get new t) ≡ thread_acted (slice_get old t)

-- what is kept of a last event, if there is one and it is not by thread t, closes a cycle
abbrev pub ClosesLast : Option Clock → ℕ → Option Kept → Type 0
ClosesLast begin t None = ⊥
ClosesLast begin t (Some k) = (k.thread ≢ t) × IsClosedBy begin (number_at k.clock)

abbrev pub last_but : ℕ → Option Kept → ℕ → ℕ
last_but t None u = 0
last_but t (Some k) u = clock_but t k u

-- the slot's last event is now by thread t, with clock K
pub record KeepsClock (old new : Table) (slot : Slot) (t : ℕ) (K : ℕ → ℕ) : Type 0 where
  pub clock : (s : Slot) (u : ℕ) → kept_clock (kept_of new s) u ≡ (if same_slot s slot then K u else kept_clock (kept_of old s) u)
  pub actor : (s : Slot) → kept_thread (kept_of new s) ≡ (if same_slot s slot then Some t else kept_thread (kept_of old s))

-- Slots by numbers: first the threads, then those that have a label

abbrev pub slot_or : ℕ → Option Slot → Slot
slot_or n None = OfThread n
slot_or n (Some s) = s

abbrev pub slot_in : List Thread → Table → ℕ → Slot
slot_in threads table n = if nat_lt n (length threads) then OfThread n else slot_or n (slice_get (labels_of table) (n - length threads))

-- slot s has taken the clock of thread t, and no other clock has changed
pub record JoinsClock (old new : State) (t : ℕ) (s : Slot) : Type 0 where
  pub clock : (r : Slot) (u : ℕ) → new.clock r u ≡ (if same_slot r s then max (old.clock r u) (old.clock (OfThread t) u) else old.clock r u)
  pub actor : (r : Slot) → new.actor r ≡ old.actor r
