use Rattle.std.proofs.Common.{get_or, arith}
use Rattle.std.proofs.lemmas.Option.{slice_get-get_or}
use Rattle.aero_leads.proofs.Leasts.{lead}
use Rattle.aero_leads.proofs.Lowering.{low_next}
use Rattle.aero_leads.proofs.lows.least_place.Goals as goal

pub loop-lead-preserved : goal.loop-lead-preserved
loop-lead-preserved c =
    let l = get_or c.args.row.now c.loop-lead.lead-index (lead 0 0) in
    record {
      low = low_next c.args.row.now c.loop-lead.lead-index l c.loop-lead.least _ (slice_get-get_or c.args.row.now c.loop-lead.lead-index (lead 0 0) c.loop-lead-test.true)
          (omega arith) (omega arith) c.loop-lead.invariant.low;
    }
