use Rattle.std.proofs.lemmas.Option.{slice_get_read}
use Rattle.aero_lanes.proofs.Seated.{goes_on}
use Rattle.aero_lanes.proofs.lanes.start_next.Goals as goal
use Rattle.aero_intake.specs.PlanTerms.{terms_of}

pub returns-clause-goes : goal.returns-clause-goes
returns-clause-goes g c =
    let seats = c.args.lanes.now.seats in
    let place = c.args.lanes.now.started in
    let at = slice_get_read seats.items seats.len place c.index_mut.result.now seats.ok.0 c.requires c.index_mut.ensures.value in
    goes_on g.R.Followed.sight (terms_of c.args.shared.plan.now) seats.items place c.index_mut.result.now c.start.new.seat at c.start.ensures.fits c.start.ensures.done
