-- What contracts see of Clocks, and the trace that they stand for.
use Rattle.std.specs.Prelude.{◌≡◌, ℕ, ◌+◌, ◌==◌, ◌<◌, ◌≤◌, slice_get, max, Bool, true, false, if◌then◌else◌, List, [], length, Option, Some, None, Result}
use Rattle.aero_model.specs.declared.numbered.Numbered.{Numbered}
use Rattle.aero_engine.specs.declared.slot.Slot.{Slot}
use Rattle.aero_engine.specs.declared.slot.Slot.TheVariants.{OfThread}
use Rattle.aero_engine.specs.declared.spent.Spent.{Spent}
use Rattle.aero_engine.specs.Protocol.{View}
use Rattle.aero_engine.specs.Protocol as protocol
use Rattle.aero_engine.specs.Judging as judging
use Rattle.aero_access.specs.declared.clocks.Clocks.{Clocks}
use Rattle.aero_access.specs.LastClocks.{same_slot}
use Rattle.aero_access.specs.Threads.{AreSameThreads}
use Rattle.aero_access.specs.TableWords.{labels_of}
use Rattle.aero_access.specs.Led.{led_at, slots_in}
use Rattle.aero_access.specs.States.{State, IsStateOf}
use Rattle.aero_access.specs.StateWords.{state_in, slot_in}

abbrev pub state_of : Clocks → State
state_of c = state_in c.threads.items c.table

-- each slot's clock
abbrev pub clock_of : Clocks → Slot → ℕ → ℕ
clock_of c = (state_of c).clock

-- the clock of a thread as its open block began
abbrev pub begin_clock_of : Clocks → ℕ → ℕ → ℕ
begin_clock_of c = (state_of c).begin_clock

-- whether the thread is in a block, how many outermost begins it has made, whether it has made an event
abbrev pub in_block_at : Clocks → ℕ → Bool
in_block_at c = (state_of c).in_block

abbrev pub begins_at : Clocks → ℕ → ℕ
begins_at c = (state_of c).begins

abbrev pub acted_at : Clocks → ℕ → Bool
acted_at c = (state_of c).acted

-- the thread whose block was told, if one was
abbrev pub closed_by : Clocks → Option ℕ
closed_by c = c.closed

-- whether memory was refused
abbrev pub is_spent : Clocks → Bool
is_spent c = c.spent

-- the clocks are in use, and what is kept is right for the trace
pub record StandsFor (c : Clocks) (trace : List Numbered) : Type 0 where
  pub unspent : is_spent c ≡ false
  pub unclosed : closed_by c ≡ None
  pub state : IsStateOf (state_of c) trace

abbrev pub view_of : Clocks → View
view_of c = record { in_block = in_block_at c; begins = begins_at c; acted = acted_at c; closed = closed_by c; spent = is_spent c }

-- the tests answer the same
abbrev pub HaveSameTests : Clocks → Clocks → Type 0
HaveSameTests old new = protocol.HaveSameTests (view_of old) (view_of new)

-- what a call leaves, whatever the trace
abbrev pub Answers : Clocks → Clocks → Result (Option ℕ) Spent → Type 0
Answers old new = protocol.Answers (view_of old) (view_of new)

-- what the answer after the event at place n tells, and for which trace the clocks stand then
abbrev pub Tells : Clocks → List Numbered → ℕ → Option ℕ → Type 0
Tells new = judging.Tells (StandsFor new)

-- for each trace that the clocks stood for
abbrev pub Follows : Clocks → Clocks → Numbered → Result (Option ℕ) Spent → Type 0
Follows old new = judging.Follows (StandsFor old) (StandsFor new)

-- a call has begun
pub record IsStarted (old new : Clocks) (t : ℕ) : Type 0 where
  pub unspent : is_spent old ≡ false
  pub spent : is_spent new ≡ true
  pub closed : closed_by new ≡ closed_by old
  pub table : new.table ≡ old.table
  pub threads : AreSameThreads old.threads.items new.threads.items
  pub room : length new.threads.items ≡ max (length old.threads.items) (t + 1)

-- and has been refused
abbrev pub IsRefused : Clocks → Clocks → Type 0
IsRefused old new = protocol.IsRefused (view_of old) (view_of new)

-- thread t has acted, and the call is done
pub record IsFinished (old new : Clocks) (t : ℕ) : Type 0 where
  pub spent : is_spent new ≡ false
  pub closed : closed_by new ≡ closed_by old
  pub clock : (s : Slot) (u : ℕ) → clock_of new s u ≡ clock_of old s u
  pub actor : (s : Slot) → (state_of new).actor s ≡ (state_of old).actor s
  pub begin_clock : (u v : ℕ) → begin_clock_of new u v ≡ begin_clock_of old u v
  pub in_block : (u : ℕ) → in_block_at new u ≡ in_block_at old u
  pub begins : (u : ℕ) → begins_at new u ≡ begins_at old u
  pub acted : (u : ℕ) → acted_at new u ≡ (if t == u then true else acted_at old u)

-- or its block is told
abbrev pub IsClosed : Clocks → Clocks → ℕ → Type 0
IsClosed old new t = protocol.IsToldOf (view_of old) (view_of new) (Some t)

-- Slots by numbers: first the threads, then those that have a label

abbrev pub threads_of : Clocks → ℕ
threads_of c = length c.threads.items

abbrev pub slots_of : Clocks → ℕ
slots_of c = length c.threads.items + length (labels_of c.table)

-- which slot a number is
abbrev pub slot_at : Clocks → ℕ → Slot
slot_at c = slot_in c.threads.items c.table

-- the begin clock of thread t is at most the clock in every place
abbrev pub IsBehind : Clocks → ℕ → (ℕ → ℕ) → Type 0
IsBehind c t K = (u : ℕ) → begin_clock_of c t u ≤ K u

-- the slots' numbers that are listed for thread t, none once memory was refused
abbrev pub led_of : Clocks → ℕ → List ℕ
led_of c t = if is_spent c then [] else slots_in (led_at c.index t) (threads_of c)

-- These are the numbers of the slots whose clocks are at least the begin clock of thread t: each is in the list, nothing else is, none is in it twice, and threads come first and rise.
pub record AreLed (c : Clocks) (t : ℕ) (ns : List ℕ) : Type 0 where
  pub each : (i n : ℕ) → slice_get ns i ≡ Some n → (n < slots_of c) × IsBehind c t (clock_of c (slot_at c n))
  pub all : (n : ℕ) → n < slots_of c → IsBehind c t (clock_of c (slot_at c n)) → (i : ℕ) × (slice_get ns i ≡ Some n)
  pub once : (i j n : ℕ) → slice_get ns i ≡ Some n → slice_get ns j ≡ Some n → i ≡ j
  pub rising : (i j m n : ℕ) → i < j → slice_get ns i ≡ Some m → slice_get ns j ≡ Some n → n < threads_of c → m < n

-- slot s is thread u, whose open block the clock of thread t closes
pub record ClosesBack (c : Clocks) (t : ℕ) (s : Slot) (u : ℕ) : Type 0 where
  pub slot : s ≡ OfThread u
  pub inside : in_block_at c u ≡ true
  pub behind : IsBehind c u (clock_of c (OfThread t))

-- the same slots by the same numbers
pub record HaveSameSlots (old new : Clocks) : Type 0 where
  pub threads : threads_of new ≡ threads_of old
  pub slots : slots_of new ≡ slots_of old
  pub slot : (n : ℕ) → slot_at new n ≡ slot_at old n

-- slot s has taken the clock of thread t, and all else is the same
pub record AbsorbsClock (old new : Clocks) (t : ℕ) (s : Slot) : Type 0 where
  pub clock : (r : Slot) (u : ℕ) → clock_of new r u ≡ (if same_slot r s then max (clock_of old r u) (clock_of old (OfThread t) u) else clock_of old r u)
  pub actor : (r : Slot) → (state_of new).actor r ≡ (state_of old).actor r
  pub begin_clock : (u v : ℕ) → begin_clock_of new u v ≡ begin_clock_of old u v
  pub slots : HaveSameSlots old new

-- thread t has no open block any more, and has acted
pub record ClosesBlock (old new : Clocks) (t : ℕ) : Type 0 where
  pub unspent : is_spent new ≡ false
  pub closed : closed_by new ≡ closed_by old
  pub in_block : (u : ℕ) → in_block_at new u ≡ (if t == u then false else in_block_at old u)
  pub acted : (u : ℕ) → acted_at new u ≡ (if t == u then true else acted_at old u)
  pub begins : (u : ℕ) → begins_at new u ≡ begins_at old u
  pub begin_clock : (u v : ℕ) → begin_clock_of new u v ≡ (if t == u then 0 else begin_clock_of old u v)
  pub clock : (r : Slot) (u : ℕ) → clock_of new r u ≡ clock_of old r u
  pub actor : (r : Slot) → (state_of new).actor r ≡ (state_of old).actor r
  pub slots : HaveSameSlots old new
