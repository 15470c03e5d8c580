use Rattle.std.proofs.Common.{codes}
use Rattle.aero_faults.specs.Texts.{deed_text}
use Rattle.aero_faults.proofs.Parts.{two_parts}
use Rattle.aero_faults.proofs.texts.append_free.Goals as goal

pub returns : goal.returns
returns c =
    two_parts c.args.text.now.items (deed_text c.args.event.now) (codes ", which nobody holds") _ _
    c.in_ok-append_deed.ensures c.in_ok-extend_from_slice.ensures.items
