-- What the tables tell of an event. Where they stand for a list of events, it is what the rules for that list say.
use Rattle.std.specs.Prelude.{◌≡◌, ℕ, ◌-◌, ◌==◌, nat_lt, not, ◌&&◌, ◌||◌, if◌then◌else◌, Bool, true, false, List, length, slice_get, Option, Some, None}
use Rattle.std.specs.Option.{option_map_or}
use Rattle.aero_model.specs.declared.numbered.Numbered.{Numbered}
use Rattle.aero_model.specs.declared.numbered.What.{What}
use Rattle.aero_model.specs.declared.numbered.What.TheVariants.{Read, Write, Acquire, Release, Fork, Join, Begin, End, Exempt}
use Rattle.aero_model.specs.declared.verdict.ShapeFault.{ShapeFault}
use Rattle.aero_model.specs.declared.verdict.ShapeFault.TheVariants.{ThreadJoined, LockHeldByOther, LockNotHeld, ForkSelf, ForkStarted, JoinSelf, EndWithoutBegin}
use Rattle.aero_shape.specs.declared.admission.Admitted.{Admitted}
use Rattle.aero_shape.specs.declared.admission.Admitted.TheVariants.{Plain, OuterBegin, OuterEnd, IdleJoin}
use Rattle.aero_shape.specs.declared.states.ThreadState.{ThreadState}
use Rattle.aero_shape.specs.declared.states.LockState.{LockState}
use Rattle.aero_shape.specs.States.{thread_at, lock_at, around_at}

-- whether the thread holds the lock
abbrev pub is_held_by : ℕ → LockState → Bool
is_held_by t lock = (lock.holder == t) && nat_lt 0 lock.count

-- whether another thread does
abbrev pub is_kept_from : ℕ → LockState → Bool
is_kept_from t lock = not (lock.holder == t) && nat_lt 0 lock.count

-- whether a fork of the thread comes too late
abbrev pub is_started : ThreadState → Bool
is_started s = s.acted || s.forked || s.joined

abbrev pub deed_fault_told : List ThreadState → List LockState → ℕ → What → Option ShapeFault
deed_fault_told threads locks t (Acquire l) = if is_kept_from t (lock_at locks l) then Some LockHeldByOther else None
deed_fault_told threads locks t (Release l) = if is_held_by t (lock_at locks l) then None else Some LockNotHeld
deed_fault_told threads locks t (Fork u) = if u == t then Some ForkSelf else if is_started (thread_at threads u) then Some ForkStarted else None
deed_fault_told threads locks t (Join u) = if u == t then Some JoinSelf else None
deed_fault_told threads locks t End = if (thread_at threads t).depth == 0 then Some EndWithoutBegin else None
deed_fault_told threads locks t _ = None

abbrev pub fault_told : List ThreadState → List LockState → Numbered → Option ShapeFault
fault_told threads locks e = if (thread_at threads e.thread).joined then Some ThreadJoined else deed_fault_told threads locks e.thread e.what

-- what the event is, where so many blocks of its thread are open
abbrev pub kind_told : List ThreadState → ℕ → What → Admitted
kind_told threads deep (Begin label) = if deep == 0 then OuterBegin else Plain true
kind_told threads deep End = if deep == 1 then OuterEnd else Plain (nat_lt 0 deep)
kind_told threads deep (Join u) = if (thread_at threads u).acted then Plain (nat_lt 0 deep) else IdleJoin
kind_told threads deep _ = Plain (nat_lt 0 deep)

-- whether a deed reads or writes a variable
abbrev pub is_access : What → Bool
is_access (Read x) = true
is_access (Write x) = true
is_access _ = false

-- A read or a write by a thread that has acted and that nobody joined, and what it is.
pub record IsUsualAccess (threads : List ThreadState) (e : Numbered) (admitted : Admitted) : Type 0 where
  pub access : is_access e.what ≡ true
  pub acted : (thread_at threads e.thread).acted ≡ true
  pub joined : (thread_at threads e.thread).joined ≡ false
  pub kind : admitted ≡ kind_told threads (thread_at threads e.thread).depth e.what

-- whether the last of the numbers is this one
abbrev pub is_last : ℕ → List ℕ → Bool
is_last n numbers = option_map_or (λ last. last == n) (slice_get numbers (length numbers - 1)) false

-- Whether a begin or an end of the thread is exempt, where a begin says it of itself: an end, where no block that isn't exempt began in the innermost exempt one and is open.
abbrev pub exempt_told : List ThreadState → List (List ℕ) → ℕ → Bool → What → Bool
exempt_told threads around t exempt (Begin label) = exempt
exempt_told threads around t exempt End = is_last (thread_at threads t).depth (around_at around t)
exempt_told threads around t exempt _ = false

-- what a deed is judged as
abbrev pub judged_told : Bool → What → What
judged_told exempt (Begin label) = if exempt then Exempt else Begin None
judged_told exempt End = if exempt then Exempt else End
judged_told exempt what = what
