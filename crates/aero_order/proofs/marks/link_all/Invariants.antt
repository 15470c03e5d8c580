use Rattle.std.proofs.Common.{take}
use Rattle.aero_order.specs.LastNumbers.{AreLinked}
use Rattle.aero_order.proofs.marks.link_all.Given as goal

abbrev pub invariant-loop-u : goal.invariant-loop-u
invariant-loop-u l = AreLinked l.fn.edges.items l.number (take l.u-index l.from) l.edges.items
