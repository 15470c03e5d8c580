use Rattle.std.proofs.Common.{refl}
use Rattle.std.proofs.lemmas.Option.{slice_get_read}
use Rattle.aero_intake.proofs.Tracked.{set_changed}
use Rattle.aero_batch.proofs.checking.check_next.Goals as goal

pub returns : goal.returns
returns g c =
    let p = c.args.underway.now in
    let before = c.index_mut.result.now in
    let after = c.take_parts.new.track in
    let at = slice_get_read p.tracks.items p.tracks.len p.checked before p.tracks.ok.0 c.requires.unchecked c.index_mut.ensures.value in
    record {
      before = before;
      after = after;
      parts = c.in_ok-parts.parts;
      was = at;
      ready = c.requires.ready before at;
      gives = c.in_ok-parts.ensures;
      tracks = set_changed p.tracks.items p.checked before after (λ t. after) at refl;
      inquiry = c.in_ok-ask_check.ensures;
      checked = refl;
      read = refl;
      intake = refl;
      chunks = refl;
      ended = refl;
    }
