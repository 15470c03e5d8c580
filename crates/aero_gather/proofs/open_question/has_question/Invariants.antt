use Rattle.aero_gather.proofs.Places.{NoneHas}
use Rattle.aero_gather.proofs.open_question.has_question.Given as goal

abbrev pub invariant-loop-i : goal.invariant-loop-i
invariant-loop-i l = NoneHas l.question l.slots l.i
