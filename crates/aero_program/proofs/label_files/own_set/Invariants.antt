use Rattle.std.proofs.Common.{◌≡◌, ◌≤◌, ◌^◌, [], length, take}
use Rattle.aero_program.specs.LabelFiles.{with_labels}
use Rattle.aero_program.proofs.label_files.own_set.Given as goal

-- the labels so far
abbrev pub invariant-loop-label : goal.invariant-loop-label
invariant-loop-label l = record {
  same : l.labels.keys ≡ with_labels [] (take l.label-index l.own);
  few : length l.labels.keys ≤ 2 ^ 16;
}
