use Rattle.aero_model.proofs.Exempt.{judged_none_exempt}
use Rattle.aero_model.proofs.laws.where_none_is_exempt_all_is_judged_as_read.Goals as goal

pub returns : goal.returns
returns c = λ marked none. judged_none_exempt marked none
