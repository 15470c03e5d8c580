use Rattle.std.proofs.Common.{get_or, take, sym, subst, ◌+◌}
use Rattle.std.specs.List.{AllZip}
use Rattle.std.proofs.lemmas.Option.{slice_get-get_or}
use Rattle.aero_judge.specs.Records.{IsBlockAt}
use Rattle.aero_judge.proofs.Zipped.{zip_more}
use Rattle.aero_judge.proofs.opened.blocks_at.Goals as goal

pub loop-place-preserved : goal.loop-place-preserved
loop-place-preserved c =
    let R = IsBlockAt c.args.names.now c.args.recorder.now in
    let places = c.args.places.now in
    let i = c.loop-place.place-index in
    let at = slice_get-get_or places i 0 c.loop-place-test.true in
    subst (AllZip R (take (i + 1) places)) (sym c.in_ok-push.ensures.items) (zip_more R places c.loop-place.blocks.items i (get_or places i 0) c.in_ok-block_at.field-0 c.loop-place.invariant at c.in_ok-block_at.ensures)
