-- A reader or a writer whose interrupted calls are made again, and what the calls of the one within answered, in numbers.
use Rattle.std.specs.Prelude.{◌≡◌, ◌⊎◌, ◌+◌, ◌-◌, ◌^◌, ℕ, List, Option}
use Rattle.aero_model.specs.CallCounts.{Seen}
use Rattle.aero_program.specs.declared.retrying.Retrying.{Retrying}
use Rattle.aero_program.specs.Calls.{stream_of, done_by, idle_by, flushed_by, interrupted_by, failed_by}

-- the reader or the writer within
abbrev pub tried_by : {T : Type 0} → Retrying T → T
tried_by r = stream_of r.inner

-- how many reads and writes of the one within were done
abbrev pub done_of : {T : Type 0} → Retrying T → ℕ
done_of r = done_by r.inner

-- how many of these moved no byte, though there was one to move: of a reader, how often it found the end
abbrev pub idle_of : {T : Type 0} → Retrying T → ℕ
idle_of r = idle_by r.inner

-- how many flushes of the one within were done
abbrev pub flushed_of : {T : Type 0} → Retrying T → ℕ
flushed_of r = flushed_by r.inner

-- how many calls of the one within were interrupted
abbrev pub interrupted_of : {T : Type 0} → Retrying T → ℕ
interrupted_of r = interrupted_by r.inner

-- how many calls were given up
abbrev pub given_up_of : {T : Type 0} → Retrying T → ℕ
given_up_of r = r.given_up.number

-- how many calls of the one within failed otherwise than by an interruption, and how many were given up, together
abbrev pub refused_of : {T : Type 0} → Retrying T → ℕ
refused_of r = failed_by r.inner + given_up_of r

-- a call isn't given up, but after 2^64 - 1 interruptions
abbrev pub IsPatient : {T : Type 0} → Retrying T → Retrying T → Type 0
IsPatient before after =
    (given_up_of after ≡ given_up_of before)
    ⊎ ((given_up_of after ≡ given_up_of before + 1) × (interrupted_of after ≡ interrupted_of before + (2 ^ 64 - 1)))

-- what contracts see of a reader within: the bytes that it has left, by `known`, the word of its type for them, how often it failed or a call was given up, and how often it found the end
abbrev pub seen_within : {T : Type 0} → (T → Option (List ℕ)) → Retrying T → Seen
seen_within known r = record { bytes = known (tried_by r); faults = refused_of r; ends = idle_of r }
