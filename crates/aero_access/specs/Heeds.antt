-- What makes one number a test in the place of a whole clock.
use Rattle.std.specs.Prelude.{◌≡◌, ℕ, ◌<◌, ◌≤◌, true}
use Rattle.aero_engine.specs.declared.slot.Slot.{Slot}
use Rattle.aero_engine.specs.declared.slot.Slot.TheVariants.{OfThread}
use Rattle.aero_access.specs.States.{State}

-- The clock counts no begin that wasn't made. Where it counts a thread's last begin, and the thread has an open block, it is at least the thread's begin clock.
pub record Heeds (w : State) (K : ℕ → ℕ) : Type 0 where
  pub most : (t : ℕ) → K t ≤ w.begins t
  pub behind : (t : ℕ) → w.in_block t ≡ true → w.begins t ≤ K t → (u : ℕ) → w.begin_clock t u ≤ K u

-- Each slot's clock is such, a thread's clock counts all of its begins, and so does its begin clock.
pub record AreHeeded (w : State) : Type 0 where
  pub own : (t : ℕ) → w.begins t ≤ w.clock (OfThread t) t
  pub begun : (t : ℕ) → w.in_block t ≡ true → 0 < w.begins t
  pub counted : (t : ℕ) → w.in_block t ≡ true → w.begins t ≤ w.begin_clock t t
  pub slots : (s : Slot) → Heeds w (w.clock s)
