-- The open questions stay.
use Rattle.aero_batch.specs.Replies.{AllStay}
use Rattle.aero_batch.proofs.replies.await_oldest.Given as goal

abbrev pub invariant-replies : goal.invariant-replies
invariant-replies g l = AllStay l.fn.gathers l.gathers
