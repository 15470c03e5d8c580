use Rattle.aero_leads.proofs.Rising.{lowered_already}
use Rattle.aero_leads.proofs.row.lower_later.Goals as goal

pub returns-else-not-is_up_to-clause-lowers : goal.returns-else-not-is_up_to-clause-lowers
returns-else-not-is_up_to-clause-lowers c = lowered_already c.args.row.now c.args.place (λ w p there. c.is_up_to.ensures c.if-not-is_up_to.false p (c.requires w p there))
