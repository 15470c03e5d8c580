use Rattle.aero_access.proofs.Outcomes.{IfOk_map}
use Rattle.aero_access.proofs.kept.Kept.give.Goals as goal

pub returns-clause-closing : goal.returns-clause-closing
returns-clause-closing c = IfOk_map c.take.result (λ closes h. (λ b. (c.if-self-t.false, h.0 b), λ p. h.1 p.1)) c.take.ensures.closing
