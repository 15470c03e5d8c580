-- For which list of events, each exempt or not, a `Shape` stands.
use Rattle.std.specs.Prelude.{◌≡◌, ℕ, zero, suc, ◌<◌, ◌≤◌, ◌==◌, ◌||◌, not, Bool, true, false, if◌then◌else◌, List, [], ◌∷◌, ◌++◌, length}
use Rattle.std.specs.List.{list_any}
use Rattle.aero_model.specs.declared.numbered.Numbered.{Numbered}
use Rattle.aero_model.specs.declared.numbered.What.{What}
use Rattle.aero_model.specs.declared.numbered.What.TheVariants.{Acquire, Release, Fork, Join, Begin}
use Rattle.aero_model.specs.Blocks.{depth}
use Rattle.aero_model.specs.BlockCounts.{count_below}
use Rattle.aero_model.specs.Exempt.{Marked, read_events, nest, is_latest_exempt, judged_trace}
use Rattle.aero_model.specs.Shape.{is_acquire_of, is_release_of, held, has_acted, was_forked, was_joined, has_started, IsWellFormed}
use Rattle.aero_shape.specs.States.{Tables, thread_at, lock_at, around_at}

-- whether an event of the list names the lock
abbrev pub was_locked : List Numbered → ℕ → Bool
was_locked events l = list_any (λ e. is_acquire_of l e.what || is_release_of l e.what) events

-- Of the numbers below n that pass the test, in order: how many below each don't pass it.
abbrev pub counts_round : (ℕ → Bool) → ℕ → List ℕ
counts_round test zero = []
counts_round test (suc n) = if test n then counts_round test n ++ count_below (λ k. not (test k)) n ∷ [] else counts_round test n

-- of each open exempt block of the thread, the outermost first: how many open blocks round it aren't exempt
abbrev pub rounds : List Marked → ℕ → List ℕ
rounds marked t = counts_round (λ level. is_latest_exempt marked t level (length marked)) (nest marked t (length marked))

-- The list is well-formed, and the tables say of each thread and each lock what the rules ask of the list. No thread but a lock's holder holds it. The table of the locks has a place for each that was named. Depths are those of the trace that is judged.
pub record StandsFor (tables : Tables) (marked : List Marked) : Type 0 where
  pub well_formed : IsWellFormed (read_events marked)
  pub admitted : tables.admitted ≡ length marked
  pub depth : (t : ℕ) → (thread_at tables.threads t).depth ≡ depth (judged_trace marked) t (length marked)
  pub exempt : (t : ℕ) → around_at tables.exempt t ≡ rounds marked t
  pub acted : (t : ℕ) → (thread_at tables.threads t).acted ≡ has_acted (read_events marked) t
  pub forked : (t : ℕ) → (thread_at tables.threads t).forked ≡ was_forked (read_events marked) t
  pub joined : (t : ℕ) → (thread_at tables.threads t).joined ≡ was_joined (read_events marked) t
  pub held :
      (l t : ℕ)
      → held (read_events marked) t l ≡ (if (lock_at tables.locks l).holder == t then (lock_at tables.locks l).count else 0)
  pub locked : (l : ℕ) → was_locked (read_events marked) l ≡ true → l < length tables.locks

-- an event of the list names this thread or one of a greater number, as its actor or its target
abbrev pub ReachesThread : List Numbered → ℕ → Type 0
ReachesThread events t = (u : ℕ) × (t ≤ u) × (has_started events u ≡ true)

-- the same of a lock
abbrev pub ReachesLock : List Numbered → ℕ → Type 0
ReachesLock events l = (m : ℕ) × (l ≤ m) × (was_locked events m ≡ true)

-- the same of the target, if that is a thread or a lock
abbrev pub ReachesTarget : List Numbered → What → Type 0
ReachesTarget events (Acquire l) = ReachesLock events l
ReachesTarget events (Release l) = ReachesLock events l
ReachesTarget events (Fork u) = ReachesThread events u
ReachesTarget events (Join u) = ReachesThread events u
ReachesTarget events _ = Unit {0}

-- no thread and no lock of the event has a number above all that the events of the list name
pub record Reaches (events : List Numbered) (e : Numbered) : Type 0 where
  pub actor : ReachesThread events e.thread
  pub target : ReachesTarget events e.what

-- the event is a begin that is exempt
abbrev pub begins_exempt : What → Bool → Bool
begins_exempt (Begin label) exempt = exempt
begins_exempt _ exempt = false
