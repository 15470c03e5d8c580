use Rattle.aero_engine.proofs.Judging.{idle_inside}
use Rattle.aero_engine.proofs.by_kind.act.Goals as goal

pub returns-in-Begin : goal.returns-in-Begin
returns-in-Begin g c = λ h judged judges acts.
    let stands = g.E.ByKind.stands_for c.args.engine.now in
    let idle = idle_inside stands h c.args.t c.args.what judged acts.0 judges acts.1 c.in-Begin.is in
    c.pass.ensures h judged acts.1.standing acts.1.well_formed idle
