use Rattle.aero_engine.proofs.Rules.{judged_begins}
use Rattle.aero_engine.proofs.laws.what_is_judged_begins_a_cycle.Goals as goal

pub returns : goal.returns
returns c = λ trace n e ss clocks ok sound at takes judged. judged_begins trace ok n e at clocks ss takes sound judged
