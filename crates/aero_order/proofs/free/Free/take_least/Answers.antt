use Rattle.std.proofs.Common.{◌==◌}
use Rattle.aero_order.proofs.Heaps.{count_popped, none_less}
use Rattle.aero_order.proofs.free.Free.take_least.Goals as goal

pub returns-in-Some-clause-some : goal.returns-in-Some-clause-some
returns-in-Some-clause-some c = λ w. count_popped (λ x. x.0 == w) _ _ _ c.in-Some.ensures.permutation

pub returns-in-Some-clause-least : goal.returns-in-Some-clause-least
returns-in-Some-clause-least c = λ w l. none_less (λ x. x.0) _ _ (c.in-Some.ensures.heap_order c.args.self.now.ordered).1 w l
