use Rattle.aero_model.proofs.Exempt.{judged_well_formed}
use Rattle.aero_model.proofs.laws.a_well_formed_trace_is_judged_as_one.Goals as goal

pub returns : goal.returns
returns c = λ marked ok. judged_well_formed marked ok
