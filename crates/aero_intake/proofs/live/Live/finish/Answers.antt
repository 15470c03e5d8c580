use Rattle.std.proofs.Common.{◌≡◌, ◌∙◌, ap, subst}
use Rattle.std.specs.Prelude.{IfOk}
use Rattle.aero_intake.specs.Lives.{Watched}
use Rattle.aero_judge.specs.Judging.{Judging, judging_of}
use Rattle.aero_judge.specs.Finding.{IsTraceFinding}
use Rattle.aero_intake.proofs.live.Live.finish.Goals as goal

pub returns : goal.returns
returns c =
    let judged : Judging = judging_of c.judge_rest.new.judge in
    let terms : judged.terms ≡ c.args.self.terms = c.judge_rest.ensures.terms ∙ ap (λ (w : Watched). w.terms) c.self.view_is in
    let parts : judged.parts ≡ c.args.self.parts = c.judge_rest.ensures.parts ∙ ap (λ (w : Watched). w.parts) c.self.view_is in
    subst (λ ps. IfOk c.finish.result (IsTraceFinding ps c.args.self.terms)) parts
    (subst (λ t. IfOk c.finish.result (IsTraceFinding judged.parts t)) terms c.finish.ensures.finding)
