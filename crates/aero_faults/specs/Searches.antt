-- A search for what stands in the way of an event with a fault, and the events before it that it has seen.
use Rattle.std.specs.Prelude.{ℕ, ◌==◌, ◌&&◌, not, if◌then◌else◌, List, [], bytes_eq, ⊤, Option, None, Some, unwrap_or}
use Rattle.aero_model.specs.declared.verdict.ShapeFault.{ShapeFault}
use Rattle.aero_model.specs.declared.verdict.ShapeFault.TheVariants.{ThreadJoined, LockHeldByOther, LockNotHeld, ForkSelf, ForkStarted, JoinSelf, EndWithoutBegin}
use Rattle.aero_model.specs.Named.{Named}
use Rattle.aero_faults.specs.Before.{is_end, is_acquire_of, is_release_of, is_fork_of, is_join_of}
use Rattle.aero_faults.specs.Firsts.{is_sought, IsFound}
use Rattle.aero_faults.specs.Holders.{IsHolder}
use Rattle.aero_faults.specs.Opened.{AreOpen}
use Rattle.aero_faults.specs.declared.first.Deed.TheVariants as deed
use Rattle.aero_faults.specs.declared.first.FirstDeed.{FirstDeed}
use Rattle.aero_faults.specs.declared.first.Sought.TheVariants.{Joins, Starts}
use Rattle.aero_faults.specs.declared.holder.Holder.{Holder}
use Rattle.aero_faults.specs.declared.holder.Holder.TheVariants as holder
use Rattle.aero_faults.specs.declared.hindrance.Hindrance.{Hindrance}
use Rattle.aero_faults.specs.declared.hindrance.Hindrance.TheVariants.{Held, Free, Acted, Forked, Joined, Itself, NoneOpen}
use Rattle.aero_faults.specs.declared.search.Search.{Search}
use Rattle.aero_faults.specs.declared.search.Seen.{Seen}
use Rattle.aero_faults.specs.declared.search.Seen.TheVariants as seen

-- what the event is about: its target, or nothing
abbrev pub target_of : Named → List ℕ
target_of e = unwrap_or e.target []

-- what was seen of the events before is so
abbrev pub IsSeen : Named → List (ℕ × Named) → Seen → Type 0
IsSeen e before (seen.Lock holder) = IsHolder (target_of e) before holder
IsSeen e before (seen.Joins first) = IsFound (is_sought Joins e.thread) e.thread before first
IsSeen e before (seen.Starts first) = IsFound (is_sought Starts (target_of e)) (target_of e) before first
IsSeen e before (seen.Blocks count) = AreOpen e.thread before count
IsSeen e before seen.Nothing = ⊤

-- the search has seen these events, and no other
abbrev pub HasSeen : Search → List (ℕ × Named) → Type 0
HasSeen search before = IsSeen search.event before search.seen

-- what is looked at for a fault
abbrev pub seen_at_first : ShapeFault → Seen
seen_at_first LockHeldByOther = seen.Lock holder.Nobody
seen_at_first LockNotHeld = seen.Lock holder.Nobody
seen_at_first ThreadJoined = seen.Joins None
seen_at_first ForkStarted = seen.Starts None
seen_at_first EndWithoutBegin = seen.Blocks (Some 0)
seen_at_first _ = seen.Nothing

-- The hindrance that a search which ends so tells: none where what it saw doesn't explain the fault.
abbrev pub by_holder : ShapeFault → Named → Holder → Option Hindrance
by_holder LockHeldByOther e (holder.Thread h) = if is_acquire_of (target_of e) e && not (bytes_eq h.thread e.thread) then Some (Held h.thread h.line) else None
by_holder LockNotHeld e (holder.Thread h) = if is_release_of (target_of e) e && not (bytes_eq h.thread e.thread) then Some (Held h.thread h.line) else None
by_holder LockNotHeld e holder.Nobody = if is_release_of (target_of e) e then Some Free else None
by_holder fault e holder = None

abbrev pub by_join : ShapeFault → Option FirstDeed → Option Hindrance
by_join ThreadJoined (Some first) = Some (Joined first.thread first.line)
by_join fault first = None

abbrev pub by_deed : FirstDeed → deed.the_data → Hindrance
by_deed first deed.Acted = Acted first.line
by_deed first deed.Forked = Forked first.line
by_deed first deed.Joined = Joined first.thread first.line

abbrev pub by_start : ShapeFault → Named → Option FirstDeed → Option Hindrance
by_start ForkStarted e (Some first) = if is_fork_of (target_of e) e then Some (by_deed first first.deed) else None
by_start fault e first = None

abbrev pub by_blocks : ShapeFault → Named → Option ℕ → Option Hindrance
by_blocks EndWithoutBegin e (Some count) = if is_end e.op && (count == 0) then Some NoneOpen else None
by_blocks fault e count = None

abbrev pub by_itself : ShapeFault → Named → Option Hindrance
by_itself ForkSelf e = if is_fork_of e.thread e then Some Itself else None
by_itself JoinSelf e = if is_join_of e.thread e then Some Itself else None
by_itself fault e = None

abbrev pub hindrance_in : ShapeFault → Named → Seen → Option Hindrance
hindrance_in fault e (seen.Lock holder) = by_holder fault e holder
hindrance_in fault e (seen.Joins first) = by_join fault first
hindrance_in fault e (seen.Starts first) = by_start fault e first
hindrance_in fault e (seen.Blocks count) = by_blocks fault e count
hindrance_in fault e seen.Nothing = by_itself fault e
