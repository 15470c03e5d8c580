use Rattle.std.proofs.Common.{subst}
use Rattle.std.specs.Prelude.{◌↔◌, IsTrue, IfOk}
use Rattle.aero_access.specs.StateWords.{ClosesLast}
use Rattle.aero_access.proofs.clock_rules.take_last.Goals as goal

pub returns-in-Some-clause-closing : goal.returns-in-Some-clause-closing
returns-in-Some-clause-closing c =
    subst (λ o. IfOk c.give.result (λ closes. IsTrue closes ↔ ClosesLast c.args.thread.now.begin c.args.t o)) c.in-Some.ensures c.give.ensures.closing
