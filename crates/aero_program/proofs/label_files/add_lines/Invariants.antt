use Rattle.std.proofs.Common.{length}
use Rattle.aero_program.proofs.LabelLines.{Added}
use Rattle.aero_program.proofs.label_files.add_lines.Given as goal

-- the labels before the rest were added
abbrev pub invariant-loop-rest : goal.invariant-loop-rest
invariant-loop-rest l = Added l.fn.labels.keys l.text l.rest l.number l.labels.keys

abbrev pub decreases-loop-rest : goal.decreases-loop-rest
decreases-loop-rest l = length l.rest
