use Rattle.aero_witness.proofs.Led.{later_cycles_are_led}
use Rattle.aero_witness.proofs.laws.later_cycles_have_what_open_blocks_lead_to.Goals as goal

pub returns : goal.returns
returns c = λ trace n m first rest. later_cycles_are_led trace n m first rest
