use Rattle.aero_engine.proofs.Rules.{judged_begins_at_end}
use Rattle.aero_engine.proofs.laws.what_is_judged_at_an_end_begins_a_cycle.Goals as goal

pub returns : goal.returns
returns c = λ trace n u e clocks ok sound at closing judged. judged_begins_at_end trace ok n e at clocks closing sound u judged
