use Rattle.std.proofs.Common.{◌<◌, arith}
use Rattle.std.proofs.lemmas.Option.{slice_get_read}
use Rattle.aero_lanes.proofs.Seated.{goes_on}
use Rattle.aero_lanes.proofs.lanes.end_one.Goals as goal

pub returns-clause-goes : goal.returns-clause-goes
returns-clause-goes g c = λ terms.
    let seats = c.args.lanes.now.seats in
    let place = c.in-Some.place in
    let within : place < seats.len = omega (arith, c.if-place-len.false, c.len.ensures) in
    let at = slice_get_read seats.items seats.len place c.index_mut.result.now seats.ok.0 within c.index_mut.ensures.value in
    goes_on g.R.Followed.sight terms seats.items place c.index_mut.result.now c.end.new.seat at (λ before. c.end.ensures.fits terms before) c.end.ensures.done
