use Rattle.aero_order.proofs.Chains.{near_conflict}
use Rattle.aero_order.proofs.laws.near_events_conflict.Goals as goal

pub returns : goal.returns
returns c = λ trace i j near. near_conflict trace i j near
