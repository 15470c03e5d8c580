-- What a `Numbering` stands for, and what its calls do.
use Rattle.std.specs.Prelude.{◌≡◌, ◌≢◌, ◌<◌, ℕ, List, length, slice_get, Option, Some, None}
use Rattle.aero_model.specs.declared.numbered.Numbered.{Numbered}
use Rattle.aero_model.specs.declared.numbered.What.{What}
use Rattle.aero_model.specs.declared.numbered.What.TheVariants.{Read, Write, Acquire, Release, Fork, Join}
use Rattle.aero_model.specs.declared.limits.Limits.{Limits}
use Rattle.aero_model.specs.declared.event.Op.{Op}
use Rattle.aero_model.specs.declared.verdict.ShapeFault.{ShapeFault}
use Rattle.aero_model.specs.declared.verdict.ShapeFault.TheVariants.{Memory}
use Rattle.aero_model.specs.Named.{Named}
use Rattle.aero_model.specs.Names.{most_inline_bytes}
use Rattle.aero_model.specs.Numbering.{Tables}
use Rattle.aero_model.specs.Shape.{target_limit_fault, limit_fault}
use Rattle.aero_grammar.specs.Words.{IsName}
use Rattle.aero_verdict.specs.declared.numbering.Numbering.{Numbering}
use Rattle.aero_names.specs.Additions.{with_target, with_event, what_after, numbered_after}
use Rattle.aero_verdict.specs.Naming.{IsWithin}

abbrev pub names_in : Numbering → Tables
names_in n = record { threads = n.threads.names; variables = n.variables.names; locks = n.locks.names }

-- what an event does, where its target, if that is no label, has this number
abbrev pub with_number : What → ℕ → What
with_number (Read x) number = Read number
with_number (Write x) number = Write number
with_number (Acquire l) number = Acquire number
with_number (Release l) number = Release number
with_number (Fork u) number = Fork number
with_number (Join u) number = Join number
with_number what number = what

-- there is a thread with this number, and what it is called is a name
abbrev pub IsNamedThread : Numbering → ℕ → Type 0
IsNamedThread n t = (name : List ℕ) × (slice_get (names_in n).threads t ≡ Some name) × IsName name

-- and one that is too long to be copied without memory
abbrev pub HasLongName : Numbering → ℕ → Type 0
HasLongName n t = (name : List ℕ) × (slice_get (names_in n).threads t ≡ Some name) × IsName name × (most_inline_bytes < length name)

-- each list has its limit, and keeps to it
pub record IsLimited (limits : Limits) (n : Numbering) : Type 0 where
  pub threads : IsWithin limits.threads n.threads
  pub variables : IsWithin limits.names n.variables
  pub locks : IsWithin limits.names n.locks

-- the target of such an operation, if there is one, gets its number, and no list outgrows its limit
pub record NumbersTarget (old new : Numbering) (op : Op) (target : Option (List ℕ)) (what : What) : Type 0 where
  pub what_is : what ≡ what_after (names_in old) op target
  pub names_are : names_in new ≡ with_target (names_in old) op target
  pub within : (limits : Limits) → IsLimited limits old → IsLimited limits new × (target_limit_fault limits what ≡ None)

-- the target gets no number: this is the fault, or memory was refused
abbrev pub RefusesTarget : Numbering → Op → Option (List ℕ) → ShapeFault → Type 0
RefusesTarget old op target fault =
    (limits : Limits) → IsLimited limits old → fault ≢ Memory → target_limit_fault limits (what_after (names_in old) op target) ≡ Some fault

-- the names of the event get their numbers, and no list outgrows its limit
pub record NumbersEvent (old new : Numbering) (e : Named) (numbered : Numbered) : Type 0 where
  pub numbered_is : numbered ≡ numbered_after (names_in old) e
  pub names_are : names_in new ≡ with_event (names_in old) e
  pub within : (limits : Limits) → IsLimited limits old → IsLimited limits new × (limit_fault limits numbered ≡ None)

-- a name of the event gets no number: this is the fault, or memory was refused
abbrev pub RefusesEvent : Numbering → Named → ShapeFault → Type 0
RefusesEvent old e fault =
    (limits : Limits) → IsLimited limits old → fault ≢ Memory → limit_fault limits (numbered_after (names_in old) e) ≡ Some fault
