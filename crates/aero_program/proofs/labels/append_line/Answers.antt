use Rattle.std.proofs.Common.{[], ◌∷◌, codes}
use Rattle.aero_program.specs.Notes.{said_on}
use Rattle.aero_program.proofs.Parts.{four_parts_of_a_line}
use Rattle.aero_program.proofs.labels.append_line.Goals as goal

pub returns : goal.returns
returns c =
    four_parts_of_a_line c.args.text.now.items (codes "aerodrome: no block begins with begin(") (said_on c.args.on_terminal c.args.label.now) (codes ")") (10 ∷ []) _ _ _ _
    c.in_ok-extend_from_slice.ensures.items c.in_ok-append_said.ensures c.in_ok-extend_from_slice-2.ensures.items c.in_ok-extend_from_slice-3.ensures.items
