use Rattle.std.proofs.Common.{◌++◌, ◌∷◌, [], if◌then◌else◌, false, get_or, sym, ◌∙◌, ap}
use Rattle.std.proofs.lemmas.Option.{slice_get-get_or}
use Rattle.aero_judge.proofs.Sweeping.{places_next}
use Rattle.aero_judge.proofs.sweep.set_places.Goals as goal

pub loop-i-preserved : goal.loop-i-preserved
loop-i-preserved c =
    let marks = c.args.marks.now in
    let i = c.loop-i.i in
    let mark = get_or marks i false in
    record {
      set = c.in_ok-push_if.ensures
          ∙ ap (λ places. places ++ (if mark then i ∷ [] else [])) c.loop-i.invariant.set
          ∙ sym (places_next marks i mark (slice_get-get_or marks i false c.loop-i-test.true));
    }
