use Rattle.aero_faults.specs.Looks.{AreWhole}
use Rattle.aero_faults.proofs.reading.pass_lines.Given as goal

-- so many lines were read
abbrev pub invariant-loop : goal.invariant-loop
invariant-loop g l = AreWhole (g.B.Read.remaining l.fn.lines.inner) (g.B.Read.remaining l.lines.inner) l.counter
