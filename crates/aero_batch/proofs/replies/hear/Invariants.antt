-- The open questions stay.
use Rattle.aero_batch.specs.Replies.{AllStay}
use Rattle.aero_batch.proofs.replies.hear.Given as goal

abbrev pub invariant-loop : goal.invariant-loop
invariant-loop g l = AllStay l.fn.gathers l.gathers
