use Rattle.std.proofs.Common.{sym, subst}
use Rattle.aero_access.specs.Heeds.{AreHeeded}
use Rattle.aero_access.specs.StateWords.{state_in}
use Rattle.aero_access.proofs.clocks.Clocks.leads.Goals as goal

pub leads-requires-clause-heeded : goal.leads-requires-clause-heeded
leads-requires-clause-heeded c = subst (λ xs. AreHeeded (state_in xs c.args.self.now.table)) (sym c.deref.ensures.value) c.args.self.now.heeded
