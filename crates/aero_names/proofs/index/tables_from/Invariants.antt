use Rattle.aero_names.specs.Indexed.{marks_of}
use Rattle.aero_names.proofs.Spreads.{IsFilled}
use Rattle.aero_names.proofs.index.tables_from.Given as goal

abbrev pub invariant-loop-number : goal.invariant-loop-number
invariant-loop-number l = IsFilled l.names (marks_of l.fn.latest) l.number l.latest l.before.items
