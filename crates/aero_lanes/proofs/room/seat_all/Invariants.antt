use Rattle.std.specs.Prelude.{◌≡◌, ◌+◌, ◌++◌, vec_len, vec_capacity}
use Rattle.std.specs.Vec.Iter.{into_iter_items, into_iter_len}
use Rattle.aero_lanes.specs.Seats.{waiting}
use Rattle.aero_lanes.proofs.room.seat_all.Given as goal

abbrev pub invariant-loop-source : goal.invariant-loop-source
invariant-loop-source g l =
    (l.seats.items ++ waiting (into_iter_items l.source-iterator) ≡ waiting l.fn.sources.items)
    × (vec_len l.seats + into_iter_len l.source-iterator ≡ vec_capacity l.seats)
