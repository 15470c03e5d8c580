use Rattle.aero_verdict.proofs.OnLines.{NoneYet}
use Rattle.aero_verdict.proofs.on_line.spot_on.Given as goal

abbrev pub invariant-loop-part : goal.invariant-loop-part
invariant-loop-part l = NoneYet l.parts l.part-index l.before l.line
