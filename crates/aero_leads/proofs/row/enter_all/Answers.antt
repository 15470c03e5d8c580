use Rattle.std.proofs.Common.{get_or}
use Rattle.std.proofs.lemmas.Option.{slice_get-get_or}
use Rattle.aero_leads.specs.Indexed.{place_of}
use Rattle.aero_leads.proofs.Leasts.{lead, indexed_step}
use Rattle.aero_leads.proofs.row.enter_all.Goals as goal

pub loop-i-preserved : goal.loop-i-preserved
loop-i-preserved c =
    record {
      entered = indexed_step c.args.row.now c.loop-i.i (get_or c.args.row.now c.loop-i.i (lead 0 0)) (place_of c.loop-i.index) (place_of c.enter.new.index)
          (slice_get-get_or c.args.row.now c.loop-i.i (lead 0 0) c.loop-i-test.true) c.in_ok-enter.ensures c.loop-i.invariant.entered;
    }
