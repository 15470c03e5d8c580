-- What one more name or event adds to the names that are numbered.
use Rattle.std.specs.Prelude.{ℕ, List, [], fold, Option, unwrap_or}
use Rattle.aero_model.specs.declared.numbered.Numbered.{Numbered}
use Rattle.aero_model.specs.declared.numbered.What.{What}
use Rattle.aero_model.specs.declared.event.Op.{Op}
use Rattle.aero_model.specs.Named.{Named}
use Rattle.aero_model.specs.Numbering.{with_name, number_of, thread_target, variable_target, lock_target, Tables, what_of, numbered}

-- the name's number, where it comes after these names
abbrev pub number_after : List (List ℕ) → List ℕ → ℕ
number_after names name = number_of (with_name names name) name

-- the names, and the event's actor
abbrev pub with_actor : Tables → Named → Tables
with_actor tables e = record tables { threads = with_name tables.threads e.thread }

-- the names, and the target of such an operation
abbrev pub with_target : Tables → Op → Option (List ℕ) → Tables
with_target tables op target =
    record {
      threads = fold with_name tables.threads (thread_target op target);
      variables = fold with_name tables.variables (variable_target op target);
      locks = fold with_name tables.locks (lock_target op target);
    }

-- the names, and all those of the event
abbrev pub with_event : Tables → Named → Tables
with_event tables e = with_target (with_actor tables e) e.op e.target

-- what such an operation on the target does, where it comes after these names
abbrev pub what_after : Tables → Op → Option (List ℕ) → What
what_after tables op target = what_of (with_target tables op target) op (unwrap_or target [])

-- the event by its numbers, where it comes after these names
abbrev pub numbered_after : Tables → Named → Numbered
numbered_after tables e = numbered (with_event tables e) e
