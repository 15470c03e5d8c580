use Rattle.aero_model.proofs.Ended.{none_open}
use Rattle.aero_model.proofs.laws.where_blocks_end_none_is_open.Goals as goal

pub returns : goal.returns
returns c = λ events line thread. none_open events line thread
