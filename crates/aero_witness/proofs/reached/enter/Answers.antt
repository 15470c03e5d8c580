use Rattle.aero_witness.proofs.Walked.{closed_from, entered}
use Rattle.aero_witness.proofs.reached.enter.Goals as goal

pub walk-requires-clause-closed : goal.walk-requires-clause-closed
walk-requires-clause-closed c =
    closed_from c.args.events.now c.args.basis.now.transactions.firsts.items c.requires.basis.of.firsts c.leaves_from-from.result c.args.walks.now.reached.items c.leaves_from-from.ensures.within c.requires.closed

pub returns-clause-entered : goal.returns-clause-entered
returns-clause-entered c =
    entered c.args.events.now c.args.basis.now.transactions.firsts.items c.requires.basis.of.firsts c.args.how c.leaves_from-from.result c.args.walks.now.reached.items c.walk.new.walks.reached.items c.requires.within c.leaves_from-from.ensures c.requires.each c.in_ok-walk.ensures.walked
