use Rattle.aero_witness.specs.Marks.{mark_of}
use Rattle.aero_witness.specs.Reached.{is_noted}
use Rattle.aero_witness.proofs.Returning.{Returning}
use Rattle.aero_witness.proofs.rounds.find_way_back.Given as goal

abbrev pub invariant-loop-enters : goal.invariant-loop-enters
invariant-loop-enters l = Returning l.events l.basis.transactions.firsts.items l.basis.first (is_noted l.reached l.level) l.enters (mark_of l.marks)
