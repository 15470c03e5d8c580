use Rattle.std.proofs.Common.{length, refl}
use Rattle.std.specs.Prelude.{IfOk}
use Rattle.aero_shape.specs.declared.admission.Admitted.TheVariants.{IdleJoin}
use Rattle.aero_engine.specs.Judging.{Tells}
use Rattle.aero_engine.proofs.Judging.{plain_follows, idle_here}
use Rattle.aero_engine.proofs.by_kind.join_idle.Goals as goal

pub returns : goal.returns
returns g c = λ h judged judges after.
    let stands = g.E.ByKind.stands_for c.args.engine.now in
    plain_follows stands h c.args.event.now judged judges IdleJoin after
    (λ trace. IfOk c.pass.result (Tells (g.E.ByKind.stands_for c.pass.new.engine) trace (length h)))
    (λ same. c.pass.ensures h judged.what same.standing same.well_formed (idle_here stands h c.args.event.now judged judges IdleJoin after refl))
