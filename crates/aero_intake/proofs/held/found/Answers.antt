use Rattle.std.proofs.Common.{subst}
use Rattle.std.specs.Prelude.{IfOk}
use Rattle.aero_judge.specs.Finding.{IsTraceFinding}
use Rattle.aero_intake.proofs.AsFar.{all_found_as_far}
use Rattle.aero_intake.proofs.held.found.Goals as goal

pub returns : goal.returns
returns c =
    all_found_as_far c.finish.result c.args.live.parts c.args.terms.now
    (subst (λ t. IfOk c.finish.result (IsTraceFinding c.args.live.parts t)) c.requires c.finish.ensures)
