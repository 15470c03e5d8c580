use Rattle.std.proofs.Common.{take}
use Rattle.std.specs.List.{AllZip}
use Rattle.aero_judge.specs.Records.{IsBlockAt}
use Rattle.aero_judge.proofs.opened.blocks_at.Given as goal

-- the blocks at the places so far
abbrev pub invariant-loop-place : goal.invariant-loop-place
invariant-loop-place l = AllZip (IsBlockAt l.names l.recorder) (take l.place-index l.places) l.blocks.items
