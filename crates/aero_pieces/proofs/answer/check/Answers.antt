use Rattle.std.proofs.Common.{subst}
use Rattle.aero_model.specs.Terms.{Terms, to_the_end}
use Rattle.aero_judge.specs.Finding.{IsTraceFinding}
use Rattle.aero_pieces.proofs.answer.check.Goals as goal

pub returns : goal.returns
returns c = λ trace.
    let parts = c.args.parts.now in
    let limits = c.args.limits.now in
    let labels = c.args.except.now in
    let end = c.args.asked.end in
    let order = c.args.asked.order in
    let explain = c.args.asked.explain in
    c.value_of.ensures trace parts limits labels end order explain
    (subst (λ (t : Terms). IsTraceFinding parts (to_the_end t) c.in_ok-finding.finding) c.in_ok-terms.ensures c.in_ok-finding.ensures.finding)
