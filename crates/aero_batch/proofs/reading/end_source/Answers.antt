use Rattle.std.proofs.Common.{rules, ◌<◌}
use Rattle.std.proofs.lemmas.Option.{slice_get_read}
use Rattle.aero_batch.proofs.Stepping.{ends_source}
use Rattle.aero_batch.proofs.reading.end_source.Goals as goal

pub returns : goal.returns
returns g c =
    let mid = c.ask_chunk.new.underway in
    let within : mid.read < mid.tracks.len = search rules in
    let at = slice_get_read mid.tracks.items mid.tracks.len mid.read c.index_mut.result.now mid.tracks.ok.0 within c.index_mut.ensures.value in
    ends_source c.args.ending c.args.underway.now mid c.has_enough-enough.result c.last_block.new.intake c.in_ok-last.last c.count-bytes.result
    c.index_mut.result.now c.end_track.new.track
    c.last_block.ensures.fresh (search rules) c.has_enough-enough.ensures.enough c.has_enough-enough.ensures.not_yet c.in_ok-last.ensures.last
    c.in_ok-ask_chunk.ensures at c.end_track.ensures
