use Rattle.aero_witness.proofs.Enough.{led_is_enough}
use Rattle.aero_witness.proofs.laws.what_open_blocks_lead_to_is_enough.Goals as goal

pub returns : goal.returns
returns c = λ trace kept places marks. led_is_enough trace kept places marks
