-- The terms of a plan, and how much is kept by it.
use Rattle.std.specs.Prelude.{ℕ, ◌+◌, ◌==◌, if◌then◌else◌, List, []}
use Rattle.aero_intake.specs.declared.plan.Keeping.{Keeping}
use Rattle.aero_intake.specs.declared.plan.Plan.{Plan}
use Rattle.aero_report.specs.Options.{Note, Options}
use Rattle.aero_model.specs.Terms.{Terms}

-- on which the sources are judged
abbrev pub terms_of : Plan → Terms
terms_of plan = plan.terms

-- the same, as the summary of a report tells it, with the labels with which no block begins, and the notes on sources
abbrev pub options_with : Terms → (unused : List (List ℕ)) → (notes : List Note) → Options
options_with terms unused notes = record { terms = terms; unused = unused; notes = notes }

-- the same, where no such label and no note is told
abbrev pub options_in : Terms → Options
options_in terms = options_with terms [] []

-- how many events are kept at most of the source at this place, where there are so many sources
abbrev pub most_kept : Keeping → ℕ → ℕ → ℕ
most_kept keeping place sources = if place + 1 == sources then keeping.last_events else keeping.events
