use Rattle.aero_witness.proofs.Filling.{all_filled}
use Rattle.aero_witness.proofs.buckets.bucket_of.Goals as goal

pub returns-clause-is : goal.returns-clause-is
returns-clause-is c = (all_filled c.args.events.now c.args.basis.now.transactions.firsts.items c.args.basis.now.first c.args.kind c.fill.new.bucket c.in_ok-fill.ensures.kind c.in_ok-fill.ensures.filled).0

pub returns-clause-full : goal.returns-clause-full
returns-clause-full c = (all_filled c.args.events.now c.args.basis.now.transactions.firsts.items c.args.basis.now.first c.args.kind c.fill.new.bucket c.in_ok-fill.ensures.kind c.in_ok-fill.ensures.filled).2
