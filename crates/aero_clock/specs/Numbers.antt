-- What contracts see of a clock: its number at each thread.
use Rattle.std.specs.Prelude.{◌≡◌, ℕ, ◌+◌, ◌<◌, ◌≤◌, ◌==◌, if◌then◌else◌, max, List, Some, slice_get}
use Rattle.aero_clock.specs.declared.clock.Clock.{Clock}
use Rattle.aero_clock.specs.Pairs.{number_in}

-- the number at thread t, 0 at all but finitely many
abbrev pub number_at : Clock → ℕ → ℕ
number_at clock t = number_in clock.pairs.items t

-- 0 at every thread
pub record IsZero (clock : Clock) : Type 0 where
  pub at : (t : ℕ) → number_at clock t ≡ 0

-- at most the other's number at every thread
pub record IsAtMost (clock other : Clock) : Type 0 where
  pub at : (t : ℕ) → number_at clock t ≤ number_at other t

-- the same number at every thread
pub record IsSame (clock other : Clock) : Type 0 where
  pub at : (t : ℕ) → number_at clock t ≡ number_at other t

-- the greater of two clocks' numbers at every thread
pub record IsJoin (joined clock other : Clock) : Type 0 where
  pub at : (t : ℕ) → number_at joined t ≡ max (number_at clock t) (number_at other t)

-- one more at thread t, and the same at every other
pub record IsRaised (raised clock : Clock) (t : ℕ) : Type 0 where
  pub at : (u : ℕ) → number_at raised u ≡ (if u == t then number_at clock u + 1 else number_at clock u)

-- exactly the threads whose number isn't 0, each with its number, rising by thread
pub record Lists (ps : List (ℕ × ℕ)) (clock : Clock) : Type 0 where
  pub rising : (i j : ℕ) (p q : ℕ × ℕ) → i < j → slice_get ps i ≡ Some p → slice_get ps j ≡ Some q → p.0 < q.0
  pub numbers : (i : ℕ) (p : ℕ × ℕ) → slice_get ps i ≡ Some p → (0 < p.1) × (p.1 ≡ number_at clock p.0)
  pub all : (t : ℕ) → 0 < number_at clock t → (i : ℕ) × (slice_get ps i ≡ Some (t, number_at clock t))
