use Rattle.aero_model.proofs.Excused.{excused_leads}
use Rattle.aero_model.proofs.laws.an_excused_block_leaves_others_alone.Goals as goal

pub returns : goal.returns
returns c = λ marked t from u j opened differ. excused_leads marked t from opened u j differ
