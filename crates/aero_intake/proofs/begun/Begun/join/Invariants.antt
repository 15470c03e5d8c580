use Rattle.aero_intake.proofs.Joining.{IsJoinedTo}
use Rattle.aero_intake.proofs.begun.Begun.join.Given as goal

abbrev pub invariant-loop-place : goal.invariant-loop-place
invariant-loop-place l = IsJoinedTo l.fn.self.flags.items l.other.flags.items l.self.flags.items l.place
