use Rattle.std.proofs.Common.{Some, ap, sym, ◌∙◌}
use Rattle.aero_program.proofs.Stamps.{same_stamp}
use Rattle.aero_program.proofs.stamp.is_stamp.Goals as goal

pub returns-in-Some : goal.returns-in-Some
returns-in-Some c = λ holds. c.in-Some.is ∙ ap Some (same_stamp c.in-Some.found c.args.stamp (sym c.eq.ensures ∙ holds))
