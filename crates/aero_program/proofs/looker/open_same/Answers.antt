use Rattle.aero_program.proofs.Looking.{found_held}
use Rattle.aero_program.proofs.looker.open_same.Goals as goal

pub returns-then-is_stamp-clause-held : goal.returns-then-is_stamp-clause-held
returns-then-is_stamp-clause-held g c = found_held _ c.in_ok-opened.opened.stamp c.args.stamp (c.is_stamp.ensures c.if-is_stamp.true) c.in_ok-opened.ensures.stamped
