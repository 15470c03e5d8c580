use Rattle.std.specs.Prelude.{◌+◌, ◌≤◌, List, vec_len, vec_capacity}
use Rattle.std.specs.Vec.Iter.{into_iter_items, into_iter_len}
use Rattle.aero_intake.specs.declared.source.SourceOf.{SourceOf}
use Rattle.aero_lanes.specs.Seats.{AreSeated, BackSoFar}
use Rattle.aero_lanes.proofs.room.all_back.Given as goal
use Rattle.aero_model.specs.Terms.{Terms}

abbrev pub invariant-loop-seat : goal.invariant-loop-seat
invariant-loop-seat g l =
    (vec_len l.back + into_iter_len l.seat-iterator ≤ vec_capacity l.back)
    × ((terms : Terms) (origin : List (SourceOf g.row.R.Denot)) → AreSeated g.R.Followed.sight terms origin l.fn.seats.items →
    BackSoFar g.R.Followed.sight origin l.fn.seats.items l.back.items (into_iter_items l.seat-iterator))
