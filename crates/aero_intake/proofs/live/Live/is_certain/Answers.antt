use Rattle.std.proofs.Common.{subst}
use Rattle.std.specs.Prelude.{IfSome}
use Rattle.aero_intake.specs.Lives.{Watched}
use Rattle.aero_judge.specs.Judging.{Judging, judging_of}
use Rattle.aero_intake.proofs.Decisive.{certain_longer}
use Rattle.aero_verdict.specs.Fed.{IsCertain}
use Rattle.aero_intake.proofs.live.Live.is_certain.Goals as goal

pub returns-clause-certain : goal.returns-clause-certain
returns-clause-certain c =
    let judged : Judging = judging_of c.self.inside.judge in
    subst (λ (w : Watched). IfSome w.certain (IsCertain w.parts w.terms.rules)) c.self.view_is
    (certain_longer judged.parts c.self.inside.waiting.items judged.terms.rules judged.certain
    c.is_certain.ensures.certain)
