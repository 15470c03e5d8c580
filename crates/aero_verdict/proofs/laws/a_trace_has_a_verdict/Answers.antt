use Rattle.aero_verdict.proofs.SomeVerdict.{some_verdict}
use Rattle.aero_verdict.proofs.laws.a_trace_has_a_verdict.Goals as goal

pub returns : goal.returns
returns c = λ parts rules. some_verdict parts rules
