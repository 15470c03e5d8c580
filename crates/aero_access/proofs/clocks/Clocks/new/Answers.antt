use Rattle.std.proofs.Common.{refl}
use Rattle.aero_access.proofs.Standings.{stands_at_first}
use Rattle.aero_access.proofs.Heeding.{heeded_first}
use Rattle.aero_access.proofs.clocks.Clocks.new.Goals as goal

pub returns-clause-stands : goal.returns-clause-stands
returns-clause-stands c = stands_at_first _ refl refl c.new.ensures.items c.new-2.ensures

pub invariant_of-result-clause-heeded : goal.invariant_of-result-clause-heeded
invariant_of-result-clause-heeded c = heeded_first c.new.result.items c.new-2.result c.new.ensures.items c.new-2.ensures
