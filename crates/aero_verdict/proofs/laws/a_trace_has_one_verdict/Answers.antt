use Rattle.aero_verdict.proofs.OneVerdict.{one_verdict}
use Rattle.aero_verdict.proofs.laws.a_trace_has_one_verdict.Goals as goal

pub returns : goal.returns
returns c = λ parts rules one other v w. one_verdict parts rules one other v w
