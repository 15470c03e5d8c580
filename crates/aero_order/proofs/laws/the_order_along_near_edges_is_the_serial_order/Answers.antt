use Rattle.aero_order.proofs.ByNumbers.{serial_from_order}
use Rattle.aero_order.proofs.laws.the_order_along_near_edges_is_the_serial_order.Goals as goal

pub returns : goal.returns
returns c = λ trace firsts edges order ok are leads g. serial_from_order trace ok firsts are edges leads order g
