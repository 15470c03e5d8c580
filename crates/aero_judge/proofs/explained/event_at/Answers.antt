use Rattle.std.proofs.Common.{arith}
use Rattle.aero_judge.proofs.ReadAt.{at_read, as_well}
use Rattle.aero_judge.proofs.explained.event_at.Goals as goal

pub event_shown-requires : goal.event_shown-requires
event_shown-requires c =
    let shown = c.requires.shown in
    let each = shown.said_each in
    let less = c.requires.within in
    shown.can c.args.place _ _ (at_read c.args.recorder.now.events.items c.as_slice-events.result.now c.args.place _ c.as_slice-events.ensures.value less)
    (at_read c.args.recorder.now.said.items c.as_slice-codes.result.now c.args.place 0 c.as_slice-codes.ensures.value (omega (arith, each, less)))

pub returns : goal.returns
returns c =
    let each = c.requires.shown.said_each in
    let less = c.requires.within in
    as_well c.event_shown.result _ _ (λ event is. record {
      e = _;
      code = _;
      at = at_read c.args.recorder.now.events.items c.as_slice-events.result.now c.args.place _ c.as_slice-events.ensures.value less;
      said = at_read c.args.recorder.now.said.items c.as_slice-codes.result.now c.args.place 0 c.as_slice-codes.ensures.value (omega (arith, each, less));
      is = is;
    }) c.event_shown.ensures
