-- The index of threads and a table.
use Rattle.std.specs.Prelude.{◌≡◌, ◌≢◌, ℕ, ◌+◌, ◌-◌, ◌≤◌, true, if◌then◌else◌, List, length, Option, Some, slice_get, is_some}
use Rattle.aero_engine.specs.declared.slot.Slot.{Slot}
use Rattle.aero_access.specs.declared.thread.Thread.{Thread}
use Rattle.aero_access.specs.declared.table.Table.{Table}
use Rattle.aero_access.specs.declared.index.Index.{Index}
use Rattle.aero_access.specs.Threads.{thread_clock, thread_begin, thread_begins}
use Rattle.aero_access.specs.LastClocks.{kept_clock}
use Rattle.aero_access.specs.TableWords.{kept_of, labels_of, label_clock}
use Rattle.aero_access.specs.StateWords.{last_but}
use Rattle.aero_access.specs.Led.{leads, times, led_at, block_number, has_thread, places_in}

-- the number of the thread's open block, 0 where it has none
abbrev pub open_number : Option Thread → ℕ
open_number thread = if is_some (thread_begin thread) then thread_begins thread else 0

-- each block lists each label once to whose slot it leads
abbrev pub CountsLabels : Table → Index → Type 0
CountsLabels table index = (v i : ℕ) → times i (places_in (led_at index v)) ≡ (if leads (block_number (led_at index v)) (label_clock table i v) then 1 else 0)

-- each open block lists the threads and the labels to whose slots it leads
pub record IsIndex (all : List Thread) (table : Table) (index : Index) : Type 0 where
  pub number : (v : ℕ) → block_number (led_at index v) ≡ open_number (slice_get all v)
  pub threads : (v s : ℕ) → has_thread (led_at index v) s ≡ leads (block_number (led_at index v)) (thread_clock (slice_get all s) v)
  pub labels : CountsLabels table index

-- no clock but thread t's is another, and that is no less
pub record TakesOnly (t : ℕ) (old new : List Thread) : Type 0 where
  pub clock : (s : ℕ) → s ≢ t → (u : ℕ) → thread_clock (slice_get new s) u ≡ thread_clock (slice_get old s) u
  pub grows : (u : ℕ) → thread_clock (slice_get old t) u ≤ thread_clock (slice_get new t) u

-- only labels are listed otherwise, as the table tells
pub record KeepsLabels (before after : Table) (old new : Index) : Type 0 where
  pub number : (v : ℕ) → block_number (led_at new v) ≡ block_number (led_at old v)
  pub threads : (v s : ℕ) → has_thread (led_at new v) s ≡ has_thread (led_at old v) s
  pub labels : CountsLabels before old → CountsLabels after new

-- thread t has begun a block, which its clock counts, and no other thread has changed
pub record OpensBlock (old new : List Thread) (t : ℕ) : Type 0 where
  pub others : (s : ℕ) → s ≢ t → slice_get new s ≡ slice_get old s
  pub inside : is_some (thread_begin (slice_get new t)) ≡ true
  pub begins : thread_begins (slice_get new t) ≡ thread_begins (slice_get old t) + 1
  pub own : thread_clock (slice_get new t) t ≡ thread_clock (slice_get old t) t + 1
  pub clock : (u : ℕ) → u ≢ t → thread_clock (slice_get new t) u ≡ thread_clock (slice_get old t) u

-- the slot with this number is no thread, and its clock is at least that of thread t
pub record IsPast (all : List Thread) (table : Table) (t slot : ℕ) : Type 0 where
  pub behind : length all ≤ slot
  pub one : Slot
  pub at : slice_get (labels_of table) (slot - length all) ≡ Some one
  pub clock : (u : ℕ) → thread_clock (slice_get all t) u ≤ kept_clock (kept_of table one) u

-- what is kept of the slot's last event has nothing that is new to thread t
abbrev pub HasNoNews : List Thread → Table → ℕ → Slot → Type 0
HasNoNews all table t slot = (u : ℕ) → last_but t (kept_of table slot) u ≤ thread_clock (slice_get all t) u

-- thread t has the clock that it had
abbrev pub KeepsItsClock : List Thread → List Thread → ℕ → Type 0
KeepsItsClock old new t = (u : ℕ) → thread_clock (slice_get new t) u ≡ thread_clock (slice_get old t) u
