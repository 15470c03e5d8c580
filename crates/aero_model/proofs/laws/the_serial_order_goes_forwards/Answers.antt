use Rattle.aero_model.proofs.SerialOrders.{sound_order}
use Rattle.aero_model.proofs.laws.the_serial_order_goes_forwards.Goals as goal

pub returns : goal.returns
returns c = λ trace order g. (sound_order trace order g).forwards
