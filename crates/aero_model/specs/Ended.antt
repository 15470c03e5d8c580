-- Blocks that end without an end in the trace: where their thread is joined, and at the end of the trace.
use Rattle.std.specs.Prelude.{ℕ, Bool, true, false, not, ◌&&◌, if◌then◌else◌, List, [], ◌∷◌, ◌++◌, length, map, flat_map, replicate, bytes_eq, None, unwrap_or}
use Rattle.aero_model.specs.declared.event.Op.{Op}
use Rattle.aero_model.specs.declared.event.Op.TheVariants as op
use Rattle.aero_model.specs.Blocks.{depth}
use Rattle.aero_model.specs.Named.{Named}
use Rattle.aero_model.specs.Numbering.{number_of, tables_of, trace_of}

-- the events, without the numbers of their lines
abbrev pub without_lines : List (ℕ × Named) → List Named
without_lines events = map (λ e. e.1) events

-- How many blocks of the thread are open after the events: a begin opens one, and an end closes one if one is open. If no end is ill-formed, that is the
-- number of begins minus the number of ends.
abbrev pub open_of : List Named → List ℕ → ℕ
open_of events thread = depth (trace_of events) (number_of (tables_of events).threads thread) (length events)

abbrev pub end_of : List ℕ → Named
end_of thread = record { thread = thread; op = op.End; target = None }

-- an end of the thread on this line for each of its blocks that are open after the events
abbrev pub ends_of : List Named → (line : ℕ) → List ℕ → List (ℕ × Named)
ends_of events line thread = replicate (open_of events thread) (line, end_of thread)

abbrev pub is_join : Op → Bool
is_join op.Join = true
is_join _ = false

-- the thread, lock or variable that the event names beside its thread, or no bytes
abbrev pub target_of : Named → List ℕ
target_of e = unwrap_or e.target []

-- whether the event joins a thread other than its own
abbrev pub joins_another : Named → Bool
joins_another e = is_join e.op && not (bytes_eq (target_of e) e.thread)

-- the ends that come before the event, on its line: those of the thread that it joins
abbrev pub ends_before : List Named → ℕ × Named → List (ℕ × Named)
ends_before before e = if joins_another e.1 then ends_of before e.0 (target_of e.1) else []

-- the events that come after these, each with its line, where the blocks of a thread end before it is joined
abbrev pub ended_after : List Named → List (ℕ × Named) → List (ℕ × Named)
ended_after before [] = []
ended_after before (e ∷ more) =
    let ends = ends_before before e in
    ends ++ e ∷ ended_after (before ++ without_lines ends ++ e.1 ∷ []) more

-- an end on this line for each block that is open after the events, thread by thread
abbrev pub ends_at_end : List Named → (line : ℕ) → List (ℕ × Named)
ends_at_end events line = flat_map (ends_of events line) (tables_of events).threads

-- the events, where blocks end before their thread is joined, and on this line after the last event
abbrev pub all_ended : List (ℕ × Named) → (line : ℕ) → List (ℕ × Named)
all_ended events line =
    let ended = ended_after [] events in
    ended ++ ends_at_end (without_lines ended) line
