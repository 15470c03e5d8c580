use Rattle.std.proofs.Common.{subst}
use Rattle.std.specs.Prelude.{IfOk}
use Rattle.std.proofs.lemmas.Result.{IfOk-weaker}
use Rattle.aero_feed.specs.Feeding.{Feeding, IsTextVerdict}
use Rattle.aero_judge.specs.Judging.{judging_of}
use Rattle.aero_feed.proofs.Texts.{judged_out}
use Rattle.aero_feed.proofs.text_monitor.TextMonitor.finish.Goals as goal

pub returns-clause-verdict : goal.returns-clause-verdict
returns-clause-verdict c =
    let was = judging_of c.self.inside.judge in
    let now = judging_of c.judge_rest-judged.new.judge in
    let verdict = c.verdict-verdict.result in
    subst (λ (v : Feeding). IfOk verdict (IsTextVerdict v.text v.rules)) c.self.view_is
    (IfOk-weaker verdict _ _ (λ verdict is. judged_out c.self.inside.text.bytes c.self.inside.cutter was now verdict (c.self.invariant.stands c.in_ok-judged.ensures.was_unspent) c.in_ok-judged.ensures.judged is) c.verdict-verdict.ensures.verdict)
