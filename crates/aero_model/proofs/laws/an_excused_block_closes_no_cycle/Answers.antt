use Rattle.aero_model.proofs.Excused.{excused_clean}
use Rattle.aero_model.proofs.laws.an_excused_block_closes_no_cycle.Goals as goal

pub returns : goal.returns
returns c = λ marked t from opened none. excused_clean marked t from opened none
