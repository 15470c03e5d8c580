use Rattle.aero_verdict.proofs.Chunks.{LastSoFar}
use Rattle.aero_verdict.proofs.ended.last_ends.Given as goal

abbrev pub invariant-loop-thread : goal.invariant-loop-thread
invariant-loop-thread l = LastSoFar l.numbering l.shape l.thread l.names l.ends.items
