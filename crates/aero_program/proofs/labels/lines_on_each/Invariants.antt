use Rattle.std.proofs.Common.{◌≡◌, map, take}
use Rattle.std.specs.Prelude.{flat_map}
use Rattle.aero_program.specs.Notes.{label_line}
use Rattle.aero_program.proofs.labels.lines_on_each.Given as goal

-- the lines so far
abbrev pub invariant-loop-label : goal.invariant-loop-label
invariant-loop-label l = l.text.items ≡ flat_map (label_line l.on_terminal) (map (λ label. label.now) (take l.label-index l.fn.labels))
