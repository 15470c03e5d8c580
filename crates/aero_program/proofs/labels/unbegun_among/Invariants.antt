use Rattle.std.proofs.Common.{◌≡◌, map, take}
use Rattle.std.specs.Prelude.{not}
use Rattle.std.specs.List.{filter}
use Rattle.aero_program.specs.Labels.{is_flagged}
use Rattle.aero_program.proofs.labels.unbegun_among.Given as goal

-- those of the labels so far
abbrev pub invariant-loop-label : goal.invariant-loop-label
invariant-loop-label l =
    map (λ label. label.now) l.unused.items ≡ filter (λ label. not (is_flagged l.except.labels l.begun.flags.items label)) (take l.label-index l.fn.labels)
