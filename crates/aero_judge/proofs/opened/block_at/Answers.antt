use Rattle.std.proofs.Common.{sym, ap, arith}
use Rattle.aero_model.specs.Named.{Named}
use Rattle.aero_judge.proofs.ReadAt.{at_read}
use Rattle.aero_judge.proofs.opened.block_at.Goals as goal

pub returns : goal.returns
returns c =
    let lines = c.args.recorder.now.lines.items in
    let each = c.requires.shown.lines_each in
    let within = c.requires.within in
    record {
      line = at_read lines c.as_slice.result.now c.args.place 0 c.as_slice.ensures.value (omega (arith, each, within));
      event = c.in_ok-event.event;
      event_is = c.in_ok-event.ensures;
      thread = sym (ap (λ (e : Named). e.thread) c.event.view_is);
      label = sym (ap (λ (e : Named). e.target) c.event.view_is);
    }
