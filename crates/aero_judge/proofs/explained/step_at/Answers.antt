use Rattle.std.proofs.Common.{get_or, arith}
use Rattle.std.proofs.lemmas.Option.{slice_get-get_or}
use Rattle.aero_judge.proofs.ReadAt.{at_read}
use Rattle.aero_judge.proofs.explained.step_at.Goals as goal

pub returns : goal.returns
returns c =
    let shown = c.requires.shown in
    let each = shown.each in
    let lines_each = shown.shown.lines_each in
    let within = c.requires.within in
    let lines = c.args.recorder.now.lines.items in
    let place = c.args.place in
    let first_at = slice_get-get_or c.args.firsts.now place 0 (omega (arith, each, within)) in
    let first = get_or c.args.firsts.now place 0 in
    let first_less = shown.within place first first_at in
    record {
      line = at_read lines c.as_slice-lines.result.now place 0 c.as_slice-lines.ensures.value (omega (arith, lines_each, within));
      first = first;
      first_at = first_at;
      first_line = at_read lines c.as_slice-lines.result.now first 0 c.as_slice-lines.ensures.value (omega (arith, lines_each, first_less));
      event = c.in_ok-event.ensures;
    }
