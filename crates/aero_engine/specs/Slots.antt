-- The last event of a kind, and the slots that keep one.
use Rattle.std.specs.Prelude.{ℕ, zero, suc, ◌==◌, ◌&&◌, ◌||◌, Bool, false, if◌then◌else◌, List, Option, Some, None, slice_get}
use Rattle.aero_model.specs.declared.numbered.Numbered.{Numbered}
use Rattle.aero_model.specs.declared.numbered.What.{What}
use Rattle.aero_model.specs.declared.numbered.What.TheVariants.{Read, Write}
use Rattle.aero_model.specs.Shape.{is_release_of, is_fork_of}
use Rattle.aero_engine.specs.declared.slot.Slot.{Slot}
use Rattle.aero_engine.specs.declared.slot.Slot.TheVariants.{OfThread, LastWrite, LastRead, LastRelease}

abbrev pub is_read_of : ℕ → What → Bool
is_read_of x (Read y) = x == y
is_read_of x _ = false

abbrev pub is_write_of : ℕ → What → Bool
is_write_of x (Write y) = x == y
is_write_of x _ = false

-- whether the event can be the slot's last one: a thread's are its events, and its fork, which comes before them
abbrev pub of_slot : Slot → Numbered → Bool
of_slot (OfThread t) e = (e.thread == t) || is_fork_of t e.what
of_slot (LastWrite x) e = is_write_of x e.what
of_slot (LastRead x t) e = (e.thread == t) && is_read_of x e.what
of_slot (LastRelease l) e = is_release_of l e.what

-- there is an event, and it passes the test
abbrev pub passes : (Numbered → Bool) → Option Numbered → Bool
passes test None = false
passes test (Some e) = test e

-- the last place below n whose event passes the test
abbrev pub last_of : (Numbered → Bool) → List Numbered → ℕ → Option ℕ
last_of test trace zero = None
last_of test trace (suc n) = if passes test (slice_get trace n) then Some n else last_of test trace n

-- the place of the slot's last event among the first n
abbrev pub last_event : List Numbered → ℕ → Slot → Option ℕ
last_event trace n s = last_of (of_slot s) trace n
