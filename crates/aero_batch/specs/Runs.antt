-- The lines of a run by a plan, and what a step of it keeps or ends.
use Rattle.std.specs.Prelude.{List, Option, Some}
use Rattle.aero_model.specs.CallCounts.{Seen}
use Rattle.aero_telling.specs.declared.cause.Cause.{Cause}
use Rattle.aero_telling.specs.declared.told.Told.{Told}
use Rattle.aero_batch.specs.declared.underway.Underway.{Underway}
use Rattle.aero_telling.specs.Founds.{Sighted}
use Rattle.aero_telling.specs.Labels.{HasTold}
use Rattle.aero_batch.specs.Holding.{Stands}
use Rattle.aero_intake.specs.declared.plan.Plan.{Plan}
use Rattle.aero_intake.specs.PlanTerms.{terms_of}

-- a run by the plan that told this, without a summary, and stopped so
abbrev pub HasRun : Plan → List Sighted → List Sighted → Seen → Seen → Told → Option Cause → Type 0
HasRun plan old new before after told cause = HasTold (terms_of plan) plan.form old new before after told cause

-- between two steps of a run by the plan
abbrev pub StandsBy : Plan → List Sighted → List Sighted → Seen → Seen → Underway → Told → Type 0
StandsBy plan old now before after p told = Stands (terms_of plan) plan.form old now before after p told

-- Where a run by the plan stood so, it stands so afterwards, whatever was at its start.
abbrev pub KeepsStanding : Plan → (now after : List Sighted) → (wrote writes : Seen) → (p q : Underway) → (told tells : Told) → Type 0
KeepsStanding plan now after wrote writes p q told tells =
    (old : List Sighted) (before : Seen) → StandsBy plan old now before wrote p told → StandsBy plan old after before writes q tells

-- Where a run by the plan stood so, it has told this and stops for this cause, whatever was at its start.
abbrev pub StopsRun : Plan → (now after : List Sighted) → (wrote writes : Seen) → Underway → (told tells : Told) → Cause → Type 0
StopsRun plan now after wrote writes p told tells cause =
    (old : List Sighted) (before : Seen) → StandsBy plan old now before wrote p told → HasRun plan old after before writes tells (Some cause)
