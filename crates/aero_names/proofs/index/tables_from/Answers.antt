use Rattle.std.proofs.Common.{rules}
use Rattle.aero_names.specs.Indexed.{marks_of}
use Rattle.aero_names.proofs.Spreads.{filled_later}
use Rattle.aero_names.proofs.index.tables_from.Goals as goal

pub loop-number-preserved : goal.loop-number-preserved
loop-number-preserved c =
    filled_later c.args.names.now (marks_of c.args.latest) c.loop-number.number c.loop-number.latest c.link.new.latest c.loop-number.before.items c.link.new.before.items c.in-Some.name.now c.mark_of-mark.result c.loop-number.invariant (search rules) c.mark_of-mark.ensures.mark c.link.ensures.marks c.in_ok-link.ensures.latest c.in_ok-link.ensures.rows
