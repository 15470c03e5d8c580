-- What holds between two steps.
use Rattle.std.specs.Prelude.{◌≡◌, List, vec_len}
use Rattle.aero_intake.specs.PlanTerms.{terms_of}
use Rattle.aero_intake.specs.declared.source.SourceOf.{SourceOf}
use Rattle.aero_lanes.specs.Tellings.{HasNumbersOf, StandsSo}
use Rattle.aero_lanes.proofs.steps.tell_all.Given as goal
use Rattle.aero_model.specs.CallCounts.{seen_by}

abbrev pub invariant-steps : goal.invariant-steps
invariant-steps g l =
    HasNumbersOf (vec_len l.lanes.seats) l.told
    × (vec_len l.lanes.seats ≡ vec_len l.fn.lanes.seats)
    × ((origin : List (SourceOf g.row.R.Denot)) →
    StandsSo g.R.Followed.sight (terms_of l.shared.plan.now) l.shared.plan.now.form origin (seen_by g.W.Write.contents l.fn.writer) (seen_by g.W.Write.contents l.fn.writer) l.fn.lanes.seats.items l.fn.told →
    StandsSo g.R.Followed.sight (terms_of l.shared.plan.now) l.shared.plan.now.form origin (seen_by g.W.Write.contents l.fn.writer) (seen_by g.W.Write.contents l.writer) l.lanes.seats.items l.told)
