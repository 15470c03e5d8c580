use Rattle.aero_model.proofs.Completeness.{complete_where_serializable}
use Rattle.aero_model.proofs.SerialOrders.{sound_order, no_cycle}
use Rattle.aero_model.proofs.laws.the_serial_order_is_complete_where_serializable.Goals as goal

pub returns : goal.returns
returns c = λ trace order g. (no_cycle trace order (sound_order trace order g), complete_where_serializable trace order g)
