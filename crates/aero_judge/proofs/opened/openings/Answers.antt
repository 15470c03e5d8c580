use Rattle.std.proofs.Common.{◌+◌, sym, subst}
use Rattle.aero_judge.specs.Records.{AreBegunTo}
use Rattle.aero_judge.proofs.Opening.{begun_more}
use Rattle.aero_judge.proofs.opened.openings.Goals as goal

pub loop-place-preserved : goal.loop-place-preserved
loop-place-preserved c =
    let events = c.args.events.now in
    let place = c.loop-place.place in
    subst (AreBegunTo events (place + 1)) (sym c.in_ok-push_if.ensures)
    (begun_more events place c.loop-place.places.items c.is_opening-opens.result c.loop-place.invariant c.is_opening-opens.ensures)
