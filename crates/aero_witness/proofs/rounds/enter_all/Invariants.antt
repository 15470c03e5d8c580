use Rattle.std.proofs.Common.{◌+◌, take}
use Rattle.aero_witness.specs.Reached.{IsFront, AreEntered}
use Rattle.aero_witness.proofs.rounds.enter_all.Given as goal

abbrev pub invariant-loop-arrival : goal.invariant-loop-arrival
invariant-loop-arrival l = record { entered : AreEntered l.events l.level l.fn.walks.reached.items (take l.arrival-index l.arrivals) l.walks.reached.items; front : IsFront (l.level + 1) l.walks.reached.items l.walks.front.items }
