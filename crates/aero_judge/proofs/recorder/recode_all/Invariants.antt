use Rattle.std.proofs.Common.{take}
use Rattle.std.specs.List.{AllZip}
use Rattle.aero_judge.specs.Recorded.{SaysSame}
use Rattle.aero_judge.proofs.recorder.recode_all.Given as goal

abbrev pub invariant-loop-code : goal.invariant-loop-code
invariant-loop-code l = record { same : AllZip (SaysSame l.labels.names l.left.names) (take l.code-index l.said) l.codes.items }
