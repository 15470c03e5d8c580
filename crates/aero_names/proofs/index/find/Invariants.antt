use Rattle.aero_names.specs.Indexed.{mark_of, marks_of}
use Rattle.aero_names.proofs.Searches.{IsLeft}
use Rattle.aero_names.proofs.index.find.Given as goal

abbrev pub invariant-loop-next : goal.invariant-loop-next
invariant-loop-next l = IsLeft (mark_of (marks_of l.latest)) l.names l.name l.next

abbrev pub decreases-loop-next : goal.decreases-loop-next
decreases-loop-next l = l.next
