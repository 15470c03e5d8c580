-- Who holds a lock.
use Rattle.std.specs.Prelude.{◌≡◌, ◌≢◌, ◌⊎◌, ℕ, ◌+◌, ◌<◌, List, ◌∷◌, ◌++◌, take, true}
use Rattle.aero_model.specs.Named.{Named}
use Rattle.aero_faults.specs.Before.{is_acquire_of, is_release_of, is_by, acquires, releases, held}
use Rattle.aero_faults.specs.declared.holder.Holder.{Holder}
use Rattle.aero_faults.specs.declared.holder.Holder.TheVariants.{Nobody, Thread, Unclear}
use Rattle.aero_faults.specs.declared.holder.Holding.{Holding}

-- The thread holds the lock since its acquire on this line, the outermost that it hasn't released: before that it didn't hold the lock, and ever since it has.
pub record Holds (before : List (ℕ × Named)) (t l : List ℕ) (line : ℕ) : Type 0 where
  pub front : List (ℕ × Named)
  pub acquire : Named
  pub back : List (ℕ × Named)
  pub is : before ≡ front ++ (line, acquire) ∷ back
  pub by : is_by t acquire ≡ true
  pub acquired : is_acquire_of l acquire ≡ true
  pub free : held front t l ≡ 0
  pub since : (k : ℕ) → 0 < held (front ++ (line, acquire) ∷ take k back) t l

-- nobody holds the lock
abbrev pub IsFree : List (ℕ × Named) → List ℕ → Type 0
IsFree before l = (t : List ℕ) → acquires before t l ≡ releases before t l

-- the thread holds the lock since this line, so many times, and nobody else does
pub record HoldsAlone (before : List (ℕ × Named)) (l : List ℕ) (h : Holding) : Type 0 where
  pub holds : Holds before h.thread l h.line
  pub depth : acquires before h.thread l ≡ releases before h.thread l + h.depth
  pub some : 0 < h.depth
  pub others : (t : List ℕ) → t ≢ h.thread → acquires before t l ≡ releases before t l

-- the event acquires the lock where another thread holds it, or releases it where its thread doesn't hold it
abbrev pub Clashes : List (ℕ × Named) → List ℕ → Named → Type 0
Clashes before l e =
    ((is_acquire_of l e ≡ true) × (t : List ℕ) × (t ≢ e.thread) × (0 < held before t l))
    ⊎ ((is_release_of l e ≡ true) × (held before e.thread l ≡ 0))

-- one of the events clashes with those before it
pub record HasClash (before : List (ℕ × Named)) (l : List ℕ) : Type 0 where
  pub front : List (ℕ × Named)
  pub event : ℕ × Named
  pub back : List (ℕ × Named)
  pub is : before ≡ front ++ event ∷ back
  pub clashes : Clashes front l event.1

-- who holds the lock after the events, as long as none of them clashes with those before it
abbrev pub IsHolder : List ℕ → List (ℕ × Named) → Holder → Type 0
IsHolder l before Nobody = IsFree before l
IsHolder l before (Thread h) = HoldsAlone before l h
IsHolder l before Unclear = HasClash before l
