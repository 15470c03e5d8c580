use Rattle.aero_witness.proofs.Trail.{led_back, led_on}
use Rattle.aero_witness.proofs.laws.open_blocks_lead_to_the_same_events_in_a_trail.Goals as goal

pub returns : goal.returns
returns c = λ trace recorded n p trail. (led_back trace recorded trail n p, led_on trace recorded trail n p)
