use Rattle.std.proofs.Common.{get_or, arith}
use Rattle.std.proofs.lemmas.Option.{slice_get-get_or}
use Rattle.aero_judge.proofs.Spanning.{lasts_next}
use Rattle.aero_judge.proofs.spans.lasts_of.Goals as goal

pub put-requires : goal.put-requires
put-requires c =
    let firsts = c.args.firsts.now in
    let place = c.loop-place.place in
    let each = c.loop-place.invariant.each in
    let within = c.requires.within place 0 c.loop-place-test.true in
    omega (arith, each, within)

pub loop-place-preserved : goal.loop-place-preserved
loop-place-preserved c =
    let firsts = c.args.firsts.now in
    let place = c.loop-place.place in
    lasts_next firsts place (get_or firsts place 0) (slice_get-get_or firsts place 0 c.loop-place-test.true) c.loop-place.lasts.items c.put.new.places.items c.loop-place.invariant c.put.ensures.each c.put.ensures.at
