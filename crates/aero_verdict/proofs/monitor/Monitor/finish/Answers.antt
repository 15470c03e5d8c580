use Rattle.std.proofs.lemmas.Result.{IfOk-weaker}
use Rattle.aero_verdict.proofs.NoneOpen.{hides_nothing}
use Rattle.aero_verdict.proofs.monitor.Monitor.finish.Goals as goal

pub returns-clause-hides_nothing : goal.returns-clause-hides_nothing
returns-clause-hides_nothing g c = λ ends.
    IfOk-weaker c.into_verdict-verdict.result.0 _ _ (λ verdict tells. hides_nothing c.args.self.parts c.args.self.rules verdict ends tells.on.is_verdict) c.into_verdict-verdict.ensures.tells
