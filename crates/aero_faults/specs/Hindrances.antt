-- What stands in the way of an event with this fault, after the events before it.
use Rattle.std.specs.Prelude.{◌≡◌, ◌≢◌, ℕ, Bool, true, List}
use Rattle.aero_model.specs.declared.verdict.ShapeFault.{ShapeFault}
use Rattle.aero_model.specs.declared.verdict.ShapeFault.TheVariants.{ThreadJoined, LockHeldByOther, LockNotHeld, ForkSelf, ForkStarted, JoinSelf, EndWithoutBegin}
use Rattle.aero_model.specs.Named.{Named}
use Rattle.aero_faults.specs.Before.{is_by, is_end, is_acquire_of, is_release_of, is_fork_of, is_join_of, is_start_of, begins, ends}
use Rattle.aero_faults.specs.Firsts.{IsFirst}
use Rattle.aero_faults.specs.Holders.{Holds, IsFree}
use Rattle.aero_faults.specs.declared.hindrance.Hindrance.{Hindrance}
use Rattle.aero_faults.specs.declared.hindrance.Hindrance.TheVariants.{Held, Free, Acted, Forked, Joined, Itself, NoneOpen}

-- the event is about a lock that another thread holds since this line
pub record IsHeld (about : List ℕ → Named → Bool) (before : List (ℕ × Named)) (e : Named) (t : List ℕ) (line : ℕ) : Type 0 where
  pub lock : List ℕ
  pub event : about lock e ≡ true
  pub other : t ≢ e.thread
  pub holds : Holds before t lock line

-- the event releases a lock that nobody holds
pub record IsUnheld (before : List (ℕ × Named)) (e : Named) : Type 0 where
  pub lock : List ℕ
  pub event : is_release_of lock e ≡ true
  pub free : IsFree before lock

-- the thread joined the event's thread on this line, and nobody did before
pub record WasJoined (before : List (ℕ × Named)) (e : Named) (t : List ℕ) (line : ℕ) : Type 0 where
  pub join : Named
  pub first : IsFirst (is_join_of e.thread) before line join
  pub thread : t ≡ join.thread

-- the event forks a thread, of which the first that was said stands on this line: its own event, its fork or its join
pub record HadStarted (kind : (thread : List ℕ) → Named → Bool) (before : List (ℕ × Named)) (e : Named) (line : ℕ) : Type 0 where
  pub thread : List ℕ
  pub event : is_fork_of thread e ≡ true
  pub start : Named
  pub first : IsFirst (is_start_of thread) before line start
  pub is : kind thread start ≡ true

-- the same of a join, by this thread
pub record HadBeenJoined (before : List (ℕ × Named)) (e : Named) (t : List ℕ) (line : ℕ) : Type 0 where
  pub thread : List ℕ
  pub event : is_fork_of thread e ≡ true
  pub start : Named
  pub first : IsFirst (is_start_of thread) before line start
  pub is : is_join_of thread start ≡ true
  pub by : t ≡ start.thread

-- the event ends a block, and none of its thread is open
pub record HasNoneOpen (before : List (ℕ × Named)) (e : Named) : Type 0 where
  pub event : is_end e.op ≡ true
  pub none : begins before e.thread ≡ ends before e.thread

abbrev pub Hinders : List (ℕ × Named) → Named → ShapeFault → Hindrance → Type 0
Hinders before e LockHeldByOther (Held t line) = IsHeld is_acquire_of before e t line
Hinders before e LockNotHeld (Held t line) = IsHeld is_release_of before e t line
Hinders before e LockNotHeld Free = IsUnheld before e
Hinders before e ThreadJoined (Joined t line) = WasJoined before e t line
Hinders before e ForkStarted (Acted line) = HadStarted is_by before e line
Hinders before e ForkStarted (Forked line) = HadStarted is_fork_of before e line
Hinders before e ForkStarted (Joined t line) = HadBeenJoined before e t line
Hinders before e ForkSelf Itself = is_fork_of e.thread e ≡ true
Hinders before e JoinSelf Itself = is_join_of e.thread e ≡ true
Hinders before e EndWithoutBegin NoneOpen = HasNoneOpen before e
Hinders before e fault hindrance = ⊥
