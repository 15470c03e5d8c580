use Rattle.aero_names.proofs.LimitRule.{too_many_names}
use Rattle.aero_names.proofs.laws.too_many_names_are_new_ones.Goals as goal

pub returns : goal.returns
returns c = too_many_names
