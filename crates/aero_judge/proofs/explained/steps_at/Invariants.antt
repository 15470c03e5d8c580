use Rattle.std.proofs.Common.{take}
use Rattle.std.specs.List.{AllZip}
use Rattle.aero_judge.specs.Records.{IsStepAt}
use Rattle.aero_judge.proofs.explained.steps_at.Given as goal

-- the events at the places so far
abbrev pub invariant-loop-place : goal.invariant-loop-place
invariant-loop-place l = AllZip (IsStepAt l.names l.recorder l.firsts) (take l.place-index l.places) l.steps.items
