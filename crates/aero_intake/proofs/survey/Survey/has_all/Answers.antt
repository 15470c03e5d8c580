use Rattle.std.proofs.Common.{sym, ap, arith, length}
use Rattle.aero_intake.proofs.Surveyed.{all_hold, not_all}
use Rattle.aero_intake.proofs.survey.Survey.has_all.Goals as goal

pub returns-then-self-labels : goal.returns-then-self-labels
returns-then-self-labels c = λ holds is.
    sym (not_all c.args.except.now.labels holds c.args.self.now.passed is (omega (arith, c.if-self-labels.true, ap length c.labels-labels.ensures)))

pub returns : goal.returns
returns c = λ holds is. sym (all_hold c.args.except.now.labels holds c.args.self.now.passed is (omega (arith, c.if-self-labels.false, ap length c.labels-labels.ensures)))
