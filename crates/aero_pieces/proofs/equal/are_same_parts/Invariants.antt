use Rattle.aero_model.proofs.SameLists.{SameUpTo}
use Rattle.aero_pieces.proofs.equal.are_same_parts.Given as goal

abbrev pub invariant-loop-i : goal.invariant-loop-i
invariant-loop-i l = SameUpTo l.a l.b l.i
