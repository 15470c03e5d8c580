use Rattle.aero_witness.proofs.Led.{none_is_led_later}
use Rattle.aero_witness.proofs.laws.open_blocks_lead_to_no_earlier_event_later.Goals as goal

pub returns : goal.returns
returns c = λ trace n m x p. none_is_led_later trace n m x p
