use Rattle.aero_model.proofs.Parts.{part_of}
use Rattle.aero_model.proofs.laws.where_more_is_exempt_transactions_are_parts.Goals as goal

pub returns : goal.returns
returns c = λ fewer more i j is one. part_of fewer more is i j one
