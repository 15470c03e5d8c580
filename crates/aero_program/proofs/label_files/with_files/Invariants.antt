use Rattle.std.proofs.Common.{map, take}
use Rattle.std.specs.Prelude.{string_bytes}
use Rattle.aero_program.proofs.LabelLines.{Listing}
use Rattle.aero_program.proofs.label_files.with_files.Given as goal

-- the labels of the files so far were added
abbrev pub invariant-loop-path : goal.invariant-loop-path
invariant-loop-path g l = Listing (g.F.Opener.known l.files) l.fn.labels.keys (map string_bytes (take l.path-index l.paths)) l.labels.keys
