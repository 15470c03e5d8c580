use Rattle.std.proofs.Common.{sym, ◌∙◌, ap, arith}
use Rattle.std.proofs.lemmas.Option.{same_Some}
use Rattle.aero_model.specs.declared.numbered.Numbered.{Numbered}
use Rattle.aero_model.specs.Named.{Named}
use Rattle.aero_judge.specs.Records.{end_line, extent_of}
use Rattle.aero_judge.proofs.ReadAt.{at_read}
use Rattle.aero_judge.proofs.explained.transaction_at.Goals as goal

pub returns : goal.returns
returns c =
    let recorder = c.args.recorder.now in
    let lines = recorder.lines.items in
    let events = recorder.events.items in
    let first = c.args.span.first in
    let each = c.requires.shown.lines_each in
    let within = c.requires.within in
    let event = c.in_ok-event.event in
    let is = c.in_ok-event.ensures in
    let inside = c.event.inside in
    let at = at_read events c.as_slice-events.result.now first _ c.as_slice-events.ensures.value within in
    record {
      first_line = at_read lines c.as_slice-lines.result.now first 0 c.as_slice-lines.ensures.value (omega (arith, each, within));
      event = event;
      event_is = is;
      thread = sym (ap (λ (e : Named). e.thread) c.event.view_is);
      extent = c.extent_of.ensures
          ∙ ap (λ (x : Numbered). extent_of x.what inside.target c.end_line-end.result) (same_Some _ is.e (sym at ∙ is.at))
          ∙ ap (λ label. extent_of is.e.what label c.end_line-end.result) (ap (λ (e : Named). e.target) c.event.view_is)
          ∙ ap (λ end. extent_of is.e.what event.target end) (c.end_line-end.ensures ∙ ap (λ ls. end_line ls c.args.span.last) c.as_slice-lines.ensures.value);
    }
