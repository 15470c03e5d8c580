use Rattle.aero_verdict.proofs.Chunks.{EndsSoFar}
use Rattle.aero_verdict.proofs.ended.with_ends.Given as goal

abbrev pub invariant-loop-event : goal.invariant-loop-event
invariant-loop-event l = EndsSoFar l.fn.counts.items l.events l.most l.event-index l.ended.items l.counts.items
