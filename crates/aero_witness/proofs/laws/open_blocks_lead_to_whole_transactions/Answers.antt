use Rattle.aero_witness.proofs.Led.{led_whole}
use Rattle.aero_witness.proofs.laws.open_blocks_lead_to_whole_transactions.Goals as goal

pub returns : goal.returns
returns c = λ trace n p q. led_whole trace n p q
