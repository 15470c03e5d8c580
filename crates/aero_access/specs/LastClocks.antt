-- What contracts see of what the code keeps: of a thread, and of the last events that are no thread's own.
use Rattle.std.specs.Prelude.{◌≡◌, ℕ, ◌==◌, ◌&&◌, Bool, true, false, if◌then◌else◌, max, List, [], ◌∷◌, Option, Some, None, slice_get}
use Rattle.aero_clock.specs.Numbers.{number_at}
use Rattle.aero_engine.specs.declared.slot.Slot.{Slot}
use Rattle.aero_engine.specs.declared.slot.Slot.TheVariants.{OfThread, LastWrite, LastRead, LastRelease}
use Rattle.aero_access.specs.declared.kept.Kept.{Kept}

-- the clock that is kept, zero where there is none
abbrev pub kept_clock : Option Kept → ℕ → ℕ
kept_clock None u = 0
kept_clock (Some k) u = number_at k.clock u

-- by whom
abbrev pub kept_thread : Option Kept → Option ℕ
kept_thread None = None
kept_thread (Some k) = Some k.thread

abbrev pub is_by : ℕ → Kept → Bool
is_by t k = k.thread == t

-- no two are by one thread
abbrev pub AreApart : List Kept → Type 0
AreApart ks = (i j t : ℕ) → kept_thread (slice_get ks i) ≡ Some t → kept_thread (slice_get ks j) ≡ Some t → i ≡ j

-- its clock, but zero where it is by thread t
abbrev pub clock_but : ℕ → Kept → ℕ → ℕ
clock_but t k u = if k.thread == t then 0 else number_at k.clock u

-- the greatest of their clocks in every place, but for thread t's
abbrev pub greatest_but : ℕ → List Kept → ℕ → ℕ
greatest_but t [] u = 0
greatest_but t (k ∷ ks) u = max (clock_but t k u) (greatest_but t ks u)

abbrev pub flat : Option (Option Kept) → Option Kept
flat None = None
flat (Some o) = o

-- whether two slots are the same
abbrev pub same_slot : Slot → Slot → Bool
same_slot (OfThread t) (OfThread u) = t == u
same_slot (LastWrite x) (LastWrite y) = x == y
same_slot (LastRead x t) (LastRead y u) = (x == y) && (t == u)
same_slot (LastRelease l) (LastRelease m) = l == m
same_slot _ _ = false

-- a thread's own last events are kept elsewhere
abbrev pub is_kept : Slot → Bool
is_kept (OfThread t) = false
is_kept _ = true
