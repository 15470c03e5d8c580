use Rattle.aero_model.proofs.Parts.{cycle_of}
use Rattle.aero_model.proofs.laws.where_more_is_exempt_cycles_are_parts.Goals as goal

pub returns : goal.returns
returns c = λ fewer more n first rest i is cycle in_first. cycle_of fewer more is n first rest i cycle in_first
