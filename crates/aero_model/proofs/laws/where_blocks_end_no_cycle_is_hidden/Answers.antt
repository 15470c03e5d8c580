use Rattle.aero_model.proofs.Ended.{ended_acyclic}
use Rattle.aero_model.proofs.laws.where_blocks_end_no_cycle_is_hidden.Goals as goal

pub returns : goal.returns
returns c = λ listed events line well none. ended_acyclic listed events line well none
