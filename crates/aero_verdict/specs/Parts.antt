-- The parts of a trace that were read, one after the other. `words` are those of the checker's engine.
use Rattle.std.specs.Prelude.{◌≡◌, ℕ, suc, ◌+◌, ◌-◌, ◌<◌, ◌≤◌, ◌^◌, min, List, [], ◌++◌, length, map, take, drop, slice_get, All, Option, Some, None, option_map}
use Rattle.aero_model.specs.declared.verdict.Verdict.{Verdict}
use Rattle.aero_model.specs.declared.verdict.Verdict.TheVariants.{Serializable, Pending, Violation}
use Rattle.aero_model.specs.Cycle.{IsClosing}
use Rattle.aero_model.specs.Named.{Named}
use Rattle.aero_model.specs.Numbering.{tables_of}
use Rattle.aero_grammar.specs.Reading.{Reading, after_lines, whole_reading}
use Rattle.aero_engine.specs.Given.{Given, Words}
use Rattle.aero_verdict.specs.declared.checker.Checker.{Checker}
use Rattle.aero_verdict.specs.declared.numbering.Numbering.{Numbering}
use Rattle.aero_verdict.specs.Standing.{StandsFor, KeepsFirst, HasNamedActor, up_to}
use Rattle.aero_verdict.specs.Limited.{names_in}
use Rattle.aero_verdict.specs.Verdict.{counted_events, own_events, events_of, checked_trace, with_ends, IsOnLine, IsVerdict}
use Rattle.aero_model.specs.Terms.{Rules}

-- the parts before these have no fault, and have these events and so many lines
pub record AreBefore (parts rest : List Reading) (events : List (ℕ × Named)) (total : ℕ) : Type 0 where
  pub events_are : (whole_reading parts).events ≡ events ++ map (after_lines total) (whole_reading rest).events
  pub lines_are : (whole_reading parts).lines ≡ total + (whole_reading rest).lines
  pub fault_is : (whole_reading parts).fault ≡ option_map (after_lines total) (whole_reading rest).fault

-- the greatest number that a line is told by
abbrev pub greatest_number : ℕ
greatest_number = 2 ^ 32 - 1

-- The first k parts have no fault and so many lines, as far as these can be told. The checker has admitted those of their events that count, with the ends before joins, whatever events follow.
pub record Stands {E : Type 0} (words : Words E) (rules : Rules) (parts : List Reading) (k lines : ℕ) (checker : Checker E) : Type 0 where
  pub events : List (ℕ × Named)
  pub total : ℕ
  pub before : AreBefore parts (drop k parts) events total
  pub lines_are : lines ≡ min total greatest_number
  pub count_is : checker.shape.admitted ≡ length (with_ends rules [] (up_to rules.limits.lines events))
  pub few : length (up_to rules.limits.lines events) ≤ total
  pub within : All (λ e. e.0 ≤ total) events
  pub few_enough : length (up_to rules.limits.lines events) ≤ rules.limits.lines
  pub actors : All HasNamedActor (with_ends rules [] (up_to rules.limits.lines events))
  pub kept : (more : List (ℕ × Named)) → StandsFor words rules checker (with_ends rules [] (up_to rules.limits.lines events) ++ more)

-- so it is before the part at place k, which is this one
pub record ComesNext {E : Type 0} (words : Words E) (rules : Rules) (parts : List Reading) (k lines : ℕ) (checker : Checker E) (part : Reading) : Type 0 where
  pub so_far : Stands words rules parts k lines checker
  pub part_is : slice_get parts k ≡ Some part

-- so it is for some parts
abbrev pub IsPartExpected : {E : Type 0} → Words E → Rules → ℕ → Checker E → Reading → Type 0
IsPartExpected words rules lines checker part = (parts : List Reading) × (k : ℕ) × ComesNext words rules parts k lines checker part

-- Which events of the parts the engine keeps at their verdict: where nothing is wrong all that count, where a cycle closes those up to the event that closes it. Then the names are those of these events.
abbrev pub KeepsAt : {E : Type 0} → (E → List Given → Type 0) → Rules → List Reading → Checker E → Verdict → Type 0
KeepsAt keeps rules parts checker (Serializable events blocks) = KeepsFirst keeps rules (counted_events parts rules) (length (counted_events parts rules)) checker.engine
KeepsAt keeps rules parts checker (Pending events blocks pending) = KeepsFirst keeps rules (counted_events parts rules) (length (counted_events parts rules)) checker.engine
KeepsAt keeps rules parts checker (Violation line thread begun) =
    (place : ℕ)
    × IsClosing (checked_trace parts rules) place
    × IsOnLine parts rules place line
    × KeepsFirst keeps rules (counted_events parts rules) (suc place) checker.engine
    × (names_in checker.numbering ≡ tables_of (take (suc place) (events_of parts rules)))
KeepsAt keeps rules parts checker _ = Unit {0}

-- a cycle closes before all ends at the end
abbrev pub ClosesEarly : List Reading → Rules → Verdict → Type 0
ClosesEarly parts rules (Violation line thread begun) = (place : ℕ) × IsClosing (checked_trace parts rules) place × (place < length (with_ends rules [] (own_events parts rules)))
ClosesEarly parts rules _ = Unit {0}

-- with the part at place k: nothing is wrong, or this is the verdict on all parts
abbrev pub TellsPart : {E : Type 0} → Words E → Rules → List Reading → ℕ → ℕ → Checker E → Reading → Option Verdict → Type 0
TellsPart words rules parts k lines checker part None = Stands words rules parts (k + 1) (min (lines + part.lines) greatest_number) checker
TellsPart words rules parts k lines checker part (Some verdict) = IsVerdict parts rules verdict × KeepsAt words.keeps rules parts checker verdict × ClosesEarly parts rules verdict

-- The names are those of the events that count, whose actors have one each.
pub record NamesAll (rules : Rules) (parts : List Reading) (numbering : Numbering) : Type 0 where
  pub names_are : names_in numbering ≡ tables_of (events_of parts rules)
  pub actors : All HasNamedActor (counted_events parts rules)
