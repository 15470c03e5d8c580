use Rattle.std.proofs.Common.{refl, subst}
use Rattle.aero_intake.specs.Held.{IsBasis}
use Rattle.aero_intake.specs.Tracks.{TakesArrival}
use Rattle.aero_intake.proofs.Given.{given_found}
use Rattle.aero_intake.proofs.track.take_parts.Goals as goal

pub returns-in-Already : goal.returns-in-Already
returns-in-Already c =
    let a = c.in-Some.field-0 in
    given_found c.args.track.now c.take_arrival.new.track _ a c.in-Already.finding c.in_ok-basis.begun
    (subst (TakesArrival c.args.track.now c.take_arrival.new.track) c.in-Some.is c.take_arrival.ensures)
    (subst (IsBasis a.known.parts a.known.terms) c.in-Already.is c.in_ok-basis.ensures.basis) c.in_ok-basis.ensures.begun refl
