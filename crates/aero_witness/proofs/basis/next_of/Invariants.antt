use Rattle.std.proofs.Common.{◌-◌}
use Rattle.aero_witness.proofs.Linking.{Linked}
use Rattle.aero_witness.proofs.basis.next_of.Given as goal

abbrev pub invariant-loop-k : goal.invariant-loop-k
invariant-loop-k l = Linked l.firsts (l.count - l.k) l.next.items l.latest.items
