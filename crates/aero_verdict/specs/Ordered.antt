-- The serial order of what the parts hold, told by lines and threads.
use Rattle.std.specs.Prelude.{◌≡◌, ℕ, Bool, true, false, List, [], map, Option, is_some, slice_get, IfSome}
use Rattle.std.specs.Option.{option_map_or}
use Rattle.aero_model.specs.declared.verdict.Step.{Step}
use Rattle.aero_model.specs.declared.verdict.Verdict.{Verdict}
use Rattle.aero_model.specs.declared.verdict.Verdict.TheVariants.{Serializable, Pending}
use Rattle.aero_model.specs.Named.{Named}
use Rattle.aero_model.specs.Serial.{IsSerialOrder}
use Rattle.aero_grammar.specs.Reading.{Reading}
use Rattle.aero_verdict.specs.Verdict.{counted_events, checked_trace, IsVerdict}
use Rattle.aero_model.specs.Terms.{Rules}

-- whether nothing is wrong
abbrev pub is_faultless : Verdict → Bool
is_faultless (Serializable events blocks) = true
is_faultless (Pending events blocks pending) = true
is_faultless _ = false

-- the line of the event at place n
abbrev pub line_at : List (ℕ × Named) → ℕ → ℕ
line_at events n = option_map_or (λ e. e.0) (slice_get events n) 0

abbrev pub step_of : ℕ × Named → Step
step_of e = record { line = e.0; thread = e.1.thread }

-- the line of the event at place n, and the event's thread
abbrev pub step_at : List (ℕ × Named) → ℕ → Step
step_at events n = option_map_or step_of (slice_get events n) (record { line = 0; thread = [] })

-- the lines of the first events of the transactions, in the serial order
abbrev pub AreLinesInOrder : List Reading → Rules → List ℕ → Type 0
AreLinesInOrder parts rules lines =
    (places : List ℕ) × IsSerialOrder (checked_trace parts rules) places × (lines ≡ map (line_at (counted_events parts rules)) places)

-- the lines and the threads of these events
abbrev pub AreStepsInOrder : List Reading → Rules → List Step → Type 0
AreStepsInOrder parts rules steps =
    (places : List ℕ) × IsSerialOrder (checked_trace parts rules) places × (steps ≡ map (step_at (counted_events parts rules)) places)

-- whether the order goes with the verdict: it is asked for, and the trace is serializable
abbrev pub has_order : Bool → Verdict → Bool
has_order order (Serializable events blocks) = order
has_order order _ = false

-- the verdict, and the order exactly where it goes with that
pub record TellsInOrder (parts : List Reading) (rules : Rules) (verdict : Verdict) (steps : Option (List Step)) : Type 0 where
  pub verdict_is : IsVerdict parts rules verdict
  pub where_ordered : is_some steps ≡ has_order true verdict
  pub steps_are : IfSome steps (AreStepsInOrder parts rules)
