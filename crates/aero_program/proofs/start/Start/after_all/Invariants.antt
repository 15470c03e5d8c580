use Rattle.std.proofs.Common.{◌≡◌, ◌++◌, take}
use Rattle.aero_program.specs.Starts.{start_bytes}
use Rattle.aero_program.proofs.start.Start.after_all.Given as goal

-- as far as the bytes so far make it
abbrev pub invariant-loop-byte : goal.invariant-loop-byte
invariant-loop-byte l = start_bytes l.start ≡ take 3 (start_bytes l.fn.self ++ take l.byte-index l.byte-items)
