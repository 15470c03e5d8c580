use Rattle.std.proofs.Common.{get_or}
use Rattle.std.proofs.lemmas.Option.{slice_get-get_or}
use Rattle.aero_leads.proofs.Leasts.{lead, gained_next}
use Rattle.aero_leads.proofs.row.gain_all.Goals as goal

pub loop-lead-preserved : goal.loop-lead-preserved
loop-lead-preserved c =
    record {
      gained = gained_next c.args.row.now.items c.loop-lead.row.items c.args.other.now c.loop-lead.lead-index (get_or c.args.other.now c.loop-lead.lead-index (lead 0 0)) c.args.taking.below c.args.taking.place c.gain_below.new.row.items
          (slice_get-get_or c.args.other.now c.loop-lead.lead-index (lead 0 0) c.loop-lead-test.true) c.loop-lead.invariant.gained c.in_ok-gain_below.ensures.gains;
      listed = λ h. c.gain_below.ensures.listed (c.loop-lead.invariant.listed h);
      indexed = c.in_ok-gain_below.ensures.indexed;
      single = λ h. c.gain_below.ensures.single (c.loop-lead.invariant.single h);
      grows = λ w o h. c.gain_below.ensures.grows w o (c.loop-lead.invariant.grows w o h);
    }
