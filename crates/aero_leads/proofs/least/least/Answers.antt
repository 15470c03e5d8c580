use Rattle.std.proofs.Common.{get_or}
use Rattle.std.proofs.lemmas.Option.{slice_get-get_or}
use Rattle.aero_leads.proofs.Leasts.{lead}
use Rattle.aero_leads.proofs.LeastOf.{least_of_next}
use Rattle.aero_leads.proofs.least.least.Goals as goal

pub loop-lead-preserved : goal.loop-lead-preserved
loop-lead-preserved c =
    let l = get_or c.args.row.now c.loop-lead.lead-index (lead 0 0) in
    record {
      least = least_of_next c.args.row.now c.loop-lead.lead-index l c.loop-lead.least c.least_of.result (slice_get-get_or c.args.row.now c.loop-lead.lead-index (lead 0 0) c.loop-lead-test.true) c.least_of.ensures c.loop-lead.invariant.least;
    }
