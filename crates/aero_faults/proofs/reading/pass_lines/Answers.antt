use Rattle.aero_faults.proofs.Looking.{one_more}
use Rattle.aero_faults.proofs.reading.pass_lines.Goals as goal

pub loop-preserved : goal.loop-preserved
loop-preserved g c =
    one_more (g.B.Read.remaining c.args.lines.now.inner) (g.B.Read.remaining c.loop.lines.inner) (g.B.Read.remaining c.next_line.new.lines.inner) c.loop.counter c.next_line.new.line.items c.loop.invariant
    (c.in_ok-next_line.ensures.endless c.if-not-branch.false) (c.in_ok-next_line.ensures.came c.if-not-branch.false)
