use Rattle.std.proofs.Common.{rules}
use Rattle.std.proofs.lemmas.Result.{IfOk-weaker}
use Rattle.aero_pieces.specs.Values.{IsValueOf}
use Rattle.aero_pieces.proofs.question.Question.value.Goals as goal

pub returns-in-Check : goal.returns-in-Check
returns-in-Check c =
    IfOk-weaker c.check.result _ (λ value. IsValueOf c.args.self.now value) (λ value fits. search (rules, fits c.in-Check.trace)) c.check.ensures
