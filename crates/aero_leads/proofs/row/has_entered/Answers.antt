use Rattle.std.proofs.Common.{◌∙◌}
use Rattle.aero_leads.proofs.Leasts.{found_same}
use Rattle.aero_leads.proofs.row.has_entered.Goals as goal

pub returns : goal.returns
returns c = c.is_some.ensures ∙ found_same c.args.row.now c.args.w c.find.result c.find.ensures
