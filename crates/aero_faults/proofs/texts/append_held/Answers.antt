use Rattle.std.proofs.Common.{◌++◌, codes, decimal}
use Rattle.aero_faults.specs.Texts.{deed_text}
use Rattle.aero_faults.proofs.Parts.{four_parts}
use Rattle.aero_faults.proofs.texts.append_held.Goals as goal

pub returns : goal.returns
returns c =
    four_parts c.args.text.now.items (deed_text c.args.event.now) (codes ", which ") c.args.thread.now (codes " holds since line " ++ decimal c.args.line) _ _ _ _
    c.in_ok-append_deed.ensures c.in_ok-extend_from_slice.ensures.items c.in_ok-extend_from_slice-2.ensures.items c.in_ok-append_at.ensures
