use Rattle.std.proofs.Common.{◌≡◌, ◌++◌, map, take}
use Rattle.std.specs.Prelude.{flat_map}
use Rattle.json.specs.Tree.{json_tokens}
use Rattle.aero_report.specs.Json.{name_value}
use Rattle.aero_report.proofs.options.write_unused_labels.Given as goal

-- those of the labels so far
abbrev pub invariant-loop-label : goal.invariant-loop-label
invariant-loop-label l = l.out ≡ l.initial.out ++ flat_map (λ b. json_tokens (name_value b)) (map (λ label. label.now) (take l.label-index l.labels))
