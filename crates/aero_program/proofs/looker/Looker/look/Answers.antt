use Rattle.aero_program.proofs.Looking.{shows_as}
use Rattle.aero_program.proofs.looker.Looker.look.Goals as goal

pub returns-in-Ok : goal.returns-in-Ok
returns-in-Ok g c =
    shows_as (g.F.Opener.can_open c.in-Ok.path.now) g.F.Opener.holds c.args.name.now c.in-Ok.path.now c.in-Some-opened.stamp c.in-Some.faulty c.look_at.result c.args.opened c.args.fault
    c.in-Ok.ensures.cases.0 c.in-Some-opened.is c.in-Some.is c.look_at.ensures
