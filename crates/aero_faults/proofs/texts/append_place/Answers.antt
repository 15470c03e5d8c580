use Rattle.std.proofs.Common.{◌++◌, ◌∙◌, ap, codes, decimal}
use Rattle.aero_faults.specs.Texts.{bad_place, shown}
use Rattle.aero_faults.proofs.Parts.{three_parts}
use Rattle.aero_faults.proofs.texts.append_place.Goals as goal

pub returns : goal.returns
returns c =
    three_parts c.args.text.now.items (codes "byte " ++ decimal (bad_place c.args.line.now)) (codes " is a control byte: ") (shown c.args.line.now) _ _ _
    (c.in_ok-append_number.ensures ∙ ap (λ n. c.args.text.now.items ++ (codes "byte " ++ decimal n)) c.bad_place.ensures)
    c.in_ok-extend_from_slice.ensures.items c.in_ok-append_shown.ensures
