use Rattle.aero_faults.proofs.Looking.{next_is, taken}
use Rattle.aero_faults.proofs.reading.last_line.Goals as goal

pub returns : goal.returns
returns g c =
    next_is (g.B.Read.remaining c.args.lines) c.read_until.new.buf.items c.cut_end.new.line.items c.cut_end.result
    (taken g.B.Read.remaining c.take-lines.result c.args.lines c.new-line.result.items c.read_until.new.buf.items c.take-lines.ensures.limit c.take-lines.ensures.inner c.new-line.ensures.items
    c.in_ok-read_until.ensures.bytes)
    c.cut_end.ensures.endless c.cut_end.ensures.whole c.cut_end.ensures.open
