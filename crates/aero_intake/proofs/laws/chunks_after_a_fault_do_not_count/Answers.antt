use Rattle.aero_intake.proofs.Decided.{first_chunks_decide}
use Rattle.aero_intake.proofs.laws.chunks_after_a_fault_do_not_count.Goals as goal

pub returns : goal.returns
returns c = first_chunks_decide
