use Rattle.aero_pieces.specs.Schedule.{NoneWaits}
use Rattle.aero_gather.proofs.open_question.oldest_waiting.Given as goal

abbrev pub invariant-loop-i : goal.invariant-loop-i
invariant-loop-i l = NoneWaits l.question l.slots l.i
