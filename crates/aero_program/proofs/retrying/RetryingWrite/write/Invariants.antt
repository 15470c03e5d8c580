-- Interrupted calls wrote nothing.
use Rattle.std.specs.Io.KnownBytes.{Keeps}
use Rattle.aero_program.specs.Retries.{tried_by}
use Rattle.aero_program.proofs.Interruptions.{WasInterrupted}
use Rattle.aero_program.proofs.retrying.RetryingWrite.write.Given as goal

abbrev pub invariant-loop : goal.invariant-loop
invariant-loop g l =
    Keeps (g.W.Write.contents (tried_by l.fn.self)) (g.W.Write.contents (tried_by l.self)) × WasInterrupted l.fn.self l.self l.counter
