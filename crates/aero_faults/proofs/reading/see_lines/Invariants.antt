use Rattle.aero_faults.specs.Looks.{AreSeen, IsSameSearch}
use Rattle.aero_faults.proofs.reading.see_lines.Given as goal

-- the search has seen so many lines
abbrev pub invariant-loop-before : goal.invariant-loop-before
invariant-loop-before g l = record {
  same : IsSameSearch l.fn.first l.search;
  seen : AreSeen (g.B.Read.remaining l.fn.lines.inner) (g.B.Read.remaining l.lines.inner) l.before l.search;
}
