use Rattle.aero_judge.proofs.opened.finding_shown.Goals as goal

pub returns-clause-finding : goal.returns-clause-finding
returns-clause-finding c = λ parts rules order judged none.
    c.finding_with.ensures.finding parts rules order judged.tells.on.is_verdict none (c.in_ok-cycle.ensures parts rules judged) (c.in_ok-blocks.ensures parts rules judged)
