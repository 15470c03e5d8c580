use Rattle.std.proofs.Common.{sym, subst}
use Rattle.aero_leads.specs.Standing.{state_of}
use Rattle.aero_judge.specs.Swept.{AreLeasts}
use Rattle.aero_judge.proofs.sweep.mark_of.Goals as goal

pub least_of-least-requires : goal.least_of-least-requires
least_of-least-requires c = subst (AreLeasts (state_of c.args.leads.now).rows) (sym c.deref.ensures.value) c.in_ok-reach.ensures

pub returns-clause-mark : goal.returns-clause-mark
returns-clause-mark c = (c.least_of-least.result, c.least_of-least.ensures, c.is_led.ensures)
