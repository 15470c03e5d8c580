use Rattle.std.proofs.Common.{sym, subst}
use Rattle.aero_leads.specs.Kept.{AreKept}
use Rattle.aero_leads.proofs.Compacting.{but_kept, compact_kept}
use Rattle.aero_leads.proofs.variable.drop_stale.Goals as goal

pub returns-then-count-le-FEW : goal.returns-then-count-le-FEW
returns-then-count-le-FEW c = subst (AreKept c.args.t c.args.reads.now.items) (sym c.drop_reader.ensures) (but_kept c.args.t c.args.reads.now.items)

pub returns : goal.returns
returns c = compact_kept c.args.t c.args.reads.now.items c.compact.new.reads.items c.reserve.new.self.items c.compact.ensures c.reserve.ensures.items
