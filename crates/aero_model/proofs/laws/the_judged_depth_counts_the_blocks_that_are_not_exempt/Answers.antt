use Rattle.aero_model.proofs.Exempt.{judged_depth}
use Rattle.aero_model.proofs.laws.the_judged_depth_counts_the_blocks_that_are_not_exempt.Goals as goal

pub returns : goal.returns
returns c = λ marked t. judged_depth marked t
