use Rattle.std.proofs.Common.{◌≡◌}
use Rattle.aero_worker.proofs.crew.stop_all.Given as goal

abbrev pub invariant-loop : goal.invariant-loop
invariant-loop g l = l.poster ≡ record l.initial.poster { desk = record l.initial.poster.desk { stops = l.poster.desk.stops } }
