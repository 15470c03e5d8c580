-- What contracts see of a thread.
use Rattle.std.specs.Prelude.{◌≡◌, ◌≢◌, ℕ, ◌≤◌, Bool, true, false, is_some, max, List, Option, Some, None, slice_get}
use Rattle.aero_clock.specs.declared.clock.Clock.{Clock}
use Rattle.aero_clock.specs.Numbers.{number_at}
use Rattle.aero_access.specs.declared.kept.Kept.{Kept}
use Rattle.aero_access.specs.declared.thread.Thread.{Thread}

-- the number at u of a clock that may be missing
abbrev pub number_in : Option Clock → ℕ → ℕ
number_in None u = 0
number_in (Some c) u = number_at c u

-- what a thread has at first, where the code keeps nothing of it yet
abbrev pub thread_clock : Option Thread → ℕ → ℕ
thread_clock None u = 0
thread_clock (Some p) u = number_at p.clock u

abbrev pub thread_begin : Option Thread → Option Clock
thread_begin None = None
thread_begin (Some p) = p.begin

abbrev pub thread_begins : Option Thread → ℕ
thread_begins None = 0
thread_begins (Some p) = p.begins

abbrev pub thread_acted : Option Thread → Bool
thread_acted None = false
thread_acted (Some p) = p.acted

-- there is an open block, and its begin clock is at most this one in every place
abbrev pub IsClosedBy : Option Clock → (ℕ → ℕ) → Type 0
IsClosedBy None K = ⊥
IsClosedBy (Some b) K = (u : ℕ) → number_at b u ≤ K u

-- all but the clock is the same
pub record HasSameBlock (old new : Thread) : Type 0 where
  pub begin : new.begin ≡ old.begin
  pub begins : new.begins ≡ old.begins
  pub acted : new.acted ≡ old.acted

-- the clock takes another
pub record TakesClock (old new : Thread) (K : ℕ → ℕ) : Type 0 where
  pub clock : (u : ℕ) → number_at new.clock u ≡ max (number_at old.clock u) (K u)

-- what is kept of the threads is the same at each number
pub record AreSameThreads (old new : List Thread) : Type 0 where
  pub clock : (t u : ℕ) → thread_clock (slice_get new t) u ≡ thread_clock (slice_get old t) u
  pub begin : (t : ℕ) → thread_begin (slice_get new t) ≡ thread_begin (slice_get old t)
  pub begins : (t : ℕ) → thread_begins (slice_get new t) ≡ thread_begins (slice_get old t)
  pub acted : (t : ℕ) → thread_acted (slice_get new t) ≡ thread_acted (slice_get old t)

-- the clock of one of the kept, not by thread t, closes a cycle
pub record ClosesOne (begin : Option Clock) (t : ℕ) (ks : List Kept) : Type 0 where
  pub place : ℕ
  pub one : Kept
  pub at : slice_get ks place ≡ Some one
  pub other : one.thread ≢ t
  pub closed : IsClosedBy begin (number_at one.clock)

-- none of them does
pub record ClosesNone (begin : Option Clock) (t : ℕ) (ks : List Kept) : Type 0 where
  pub none : (i : ℕ) (k : Kept) → slice_get ks i ≡ Some k → k.thread ≢ t → ¬ IsClosedBy begin (number_at k.clock)

-- For thread t and this clock the number at t is a test: it is at least the thread's begins exactly where the whole clock is at least the begin clock.
pub record CountIsTest (thread : Thread) (t : ℕ) (K : ℕ → ℕ) : Type 0 where
  pub counted : IsClosedBy thread.begin K → thread.begins ≤ K t
  pub closed : is_some thread.begin ≡ true → thread.begins ≤ K t → IsClosedBy thread.begin K
