-- The exit status of a run: the greatest number that applies.
use Rattle.std.specs.Prelude.{ℕ, nat_lt, ◌==◌, ◌&&◌, ◌||◌, if◌then◌else◌, Bool, List, Option, Some, None, Result, Ok, Err}
use Rattle.std.specs.List.{list_all}
use Rattle.std.specs.declared.io.ErrorKind.{ErrorKind}
use Rattle.aero_telling.specs.declared.cause.Cause.{Cause}
use Rattle.aero_telling.specs.declared.cause.Cause.TheVariants as cause
use Rattle.aero_telling.specs.declared.notable.Notable.{Notable}
use Rattle.aero_model.specs.declared.verdict.Counts.{Counts}
use Rattle.aero_program.specs.declared.failure.Failure.{Failure}
use Rattle.aero_program.specs.declared.failure.Failure.TheVariants.{Memory}
use Rattle.aero_program.specs.Failure.{cut_failure, write_failure}
use Rattle.aero_program.specs.Notes.{is_unchecked}

-- whether a trace is one that status 1 tells: it has a violation, or, where that is asked for, open blocks
abbrev pub has_failing : (fail_open : Bool) → Counts → Bool
has_failing fail_open counts = nat_lt 0 counts.violations || (fail_open && nat_lt 0 counts.pending)

-- of a run that wrote its summary
abbrev pub counts_status : (fail_open : Bool) → Counts → ℕ
counts_status fail_open counts = if nat_lt 0 counts.faults then 2 else if has_failing fail_open counts then 1 else 0

-- of a run that may have stopped before
abbrev pub status_of : (fail_open : Bool) → Option Cause → Counts → ℕ
status_of fail_open (Some why) counts = 4
status_of fail_open None counts = counts_status fail_open counts

-- the status after a run and a flush, which told how it or a call before it failed, if one did, or why the program fails
abbrev pub end_of_run : (fail_open : Bool) → Option Cause → Counts → Option ErrorKind → Result ℕ Failure
end_of_run fail_open (Some cause.Memory) counts flush = Err Memory
end_of_run fail_open (Some cause.Write) counts flush = Err (cut_failure flush)
end_of_run fail_open None counts (Some kind) = Err (write_failure kind)
end_of_run fail_open None counts None = Ok (counts_status fail_open counts)

-- whether no trace has a block that was checked, by what a run noted of each
abbrev pub none_checked : List (Option Notable) → Bool
none_checked notables = list_all is_unchecked notables

-- the same end of a run, but with status 1 instead of 0 if that is asked for and no trace has a block that was checked
abbrev pub end_checked : (fail_unchecked : Bool) → List (Option Notable) → Result ℕ Failure → Result ℕ Failure
end_checked fail_unchecked notables (Ok status) = Ok (if fail_unchecked && (none_checked notables && (status == 0)) then 1 else status)
end_checked fail_unchecked notables (Err why) = Err why

-- the status after the help and a flush, or why the program fails
abbrev pub end_of_help : Option ErrorKind → Result ℕ Failure
end_of_help (Some kind) = Err (write_failure kind)
end_of_help None = Ok 0
