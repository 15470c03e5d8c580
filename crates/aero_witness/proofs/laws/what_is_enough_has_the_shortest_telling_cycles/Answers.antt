use Rattle.aero_witness.proofs.ThinnedShortest.{begins_kept, shortest_trace}
use Rattle.aero_witness.proofs.laws.what_is_enough_has_the_shortest_telling_cycles.Goals as goal

pub returns : goal.returns
returns c = λ trace kept places i p h at is_open. (begins_kept trace kept places h.thinned h.led i p at is_open, shortest_trace trace kept places h.thinned h.led i p at is_open)
