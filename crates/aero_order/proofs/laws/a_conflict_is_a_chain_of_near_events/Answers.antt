use Rattle.aero_order.proofs.Chains.{conflict_chain}
use Rattle.aero_order.proofs.laws.a_conflict_is_a_chain_of_near_events.Goals as goal

pub returns : goal.returns
returns c = λ trace i j ok conflict. conflict_chain trace ok i j conflict
