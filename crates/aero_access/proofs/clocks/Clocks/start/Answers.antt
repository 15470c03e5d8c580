use Rattle.aero_access.proofs.Heeding.{heeded_threads}
use Rattle.aero_access.proofs.clocks.Clocks.start.Goals as goal

pub invariant_of-self-clause-heeded : goal.invariant_of-self-clause-heeded
invariant_of-self-clause-heeded c = heeded_threads c.args.self.now.threads.items c.reach.new.threads.items c.args.self.now.table c.reach.ensures.same c.args.self.now.heeded

pub returns-clause-indexed : goal.returns-clause-indexed
returns-clause-indexed c = c.in_ok-reach.ensures.index c.args.self.now.table (c.args.self.now.indexed c.if-self.false)
