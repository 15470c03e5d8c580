use Rattle.std.proofs.Common.{[]}
use Rattle.aero_model.proofs.Completeness.{serial_order_exists}
use Rattle.aero_model.proofs.SerialOrders.{one_growth}
use Rattle.aero_model.proofs.laws.a_trace_has_one_serial_order.Goals as goal

pub returns : goal.returns
returns c = λ trace. let o = serial_order_exists trace in (o.0, o.1, λ other h. one_growth trace [] other o.0 h o.1)
