use Rattle.std.proofs.Common.{◌==◌}
use Rattle.aero_order.proofs.Heaps.{count_pushed}
use Rattle.aero_order.proofs.free.Free.hold.Goals as goal

pub returns : goal.returns
returns c = λ w. count_pushed (λ x. x.0 == w) _ _ _ c.in_ok-push.ensures.permutation
