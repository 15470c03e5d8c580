-- Interrupted reads took nothing, and have failed.
use Rattle.std.proofs.Common.{◌<◌, ℕ, List}
use Rattle.std.specs.Io.KnownBytes.{Keeps}
use Rattle.aero_program.proofs.input.read_on.Given as goal

abbrev pub invariant-loop : goal.invariant-loop
invariant-loop g l =
    Keeps (g.O.File.Read.remaining l.fn.file) (g.O.File.Read.remaining l.file) × (0 < l.counter → (path : List ℕ) → g.O.Opener.can_fail path)
