-- What the tables of a `Shape` say of each thread and each lock, and what an event changes in it.
use Rattle.std.specs.Prelude.{ℕ, ◌+◌, ◌-◌, ◌<◌, ◌≤◌, ◌==◌, ◌&&◌, Bool, true, false, if◌then◌else◌, List, [], ◌∷◌, ◌++◌, length, take, slice_index_or}
use Rattle.aero_model.specs.declared.numbered.Numbered.{Numbered}
use Rattle.aero_model.specs.declared.numbered.What.{What}
use Rattle.aero_model.specs.declared.numbered.What.TheVariants.{Acquire, Release, Fork, Join, Begin, End}
use Rattle.aero_shape.specs.declared.states.ThreadState.{ThreadState}
use Rattle.aero_shape.specs.declared.states.LockState.{LockState}

abbrev pub idle : ThreadState
idle = record { depth = 0; acted = false; forked = false; joined = false }

abbrev pub free : LockState
free = record { holder = 0; count = 0 }

-- the states by number, the open exempt blocks of each thread, and how many events were admitted
pub record Tables : Type 0 where
  pub threads : List ThreadState
  pub locks : List LockState
  pub exempt : List (List ℕ)
  pub admitted : ℕ

-- a thread beyond the table is idle
abbrev pub thread_at : List ThreadState → ℕ → ThreadState
thread_at threads t = slice_index_or threads t idle

-- a lock beyond the table is free
abbrev pub lock_at : List LockState → ℕ → LockState
lock_at locks l = slice_index_or locks l free

-- a thread beyond the table has no exempt block open
abbrev pub around_at : List (List ℕ) → ℕ → List ℕ
around_at exempt t = slice_index_or exempt t []

-- no number in the tables is above the number of events
pub record AreBounded (threads : List ThreadState) (locks : List LockState) (admitted : ℕ) : Type 0 where
  pub depths : (t : ℕ) → (thread_at threads t).depth ≤ admitted
  pub counts : (l : ℕ) → (lock_at locks l).count ≤ admitted

-- the table has a place for the thread that is forked or joined, if one is
abbrev pub HasThreadPlace : List ThreadState → What → Type 0
HasThreadPlace threads (Fork u) = u < length threads
HasThreadPlace threads (Join u) = u < length threads
HasThreadPlace threads _ = Unit {0}

-- the table has a place for the lock that is acquired or released, if one is
abbrev pub HasLockPlace : List LockState → What → Type 0
HasLockPlace locks (Acquire l) = l < length locks
HasLockPlace locks (Release l) = l < length locks
HasLockPlace locks _ = Unit {0}

-- the tables have a place for each number of the event
pub record HavePlaces (threads : List ThreadState) (locks : List LockState) (e : Numbered) : Type 0 where
  pub actor : e.thread < length threads
  pub target : HasThreadPlace threads e.what
  pub lock : HasLockPlace locks e.what

-- what becomes of a thread that does this
abbrev pub acting : What → ThreadState → ThreadState
acting (Begin label) s = record s { depth = s.depth + 1; acted = true }
acting End s = record s { depth = s.depth - 1; acted = true }
acting _ s = record s { acted = true }

-- what becomes of thread t, where a thread does this
abbrev pub affected : ℕ → What → ThreadState → ThreadState
affected t (Fork u) s = if t == u then record s { forked = true } else s
affected t (Join u) s = if t == u then record s { joined = true } else s
affected t _ s = s

-- what becomes of thread t by the event
abbrev pub thread_after : ℕ → Numbered → ThreadState → ThreadState
thread_after t e s = affected t e.what (if e.thread == t then acting e.what s else s)

-- what becomes of lock l, where the thread does this
abbrev pub lock_after : ℕ → ℕ → What → LockState → LockState
lock_after l thread (Acquire m) s = if l == m then record { holder = thread; count = s.count + 1 } else s
lock_after l thread (Release m) s = if l == m then record s { count = s.count - 1 } else s
lock_after l thread _ s = s

-- What becomes of the open exempt blocks of thread t, where a thread does this: exempt or not, and so deep in blocks that aren't exempt.
abbrev pub around_after : ℕ → ℕ → What → Bool → ℕ → List ℕ → List ℕ
around_after t thread (Begin label) exempt depth around = if exempt && (thread == t) then around ++ depth ∷ [] else around
around_after t thread End exempt depth around = if exempt && (thread == t) then take (length around - 1) around else around
around_after t thread _ exempt depth around = around
