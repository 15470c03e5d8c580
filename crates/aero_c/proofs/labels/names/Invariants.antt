use Rattle.std.proofs.Common.{◌≡◌, ◌++◌, false, length}
use Rattle.std.specs.List.{list_any}
use Rattle.aero_model.specs.Lines.{lines_of}
use Rattle.aero_c.specs.Labels.{is_no_name}
use Rattle.aero_c.proofs.labels.names.Given as goal

-- the names so far, and the lines that are left
abbrev pub invariant-loop-rest : goal.invariant-loop-rest
invariant-loop-rest l = record {
  lines : l.labels.items ++ lines_of l.rest ≡ lines_of l.text;
  named : list_any is_no_name l.labels.items ≡ false;
}

abbrev pub decreases-loop-rest : goal.decreases-loop-rest
decreases-loop-rest l = length l.rest
