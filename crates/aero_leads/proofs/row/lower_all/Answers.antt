use Rattle.std.proofs.Common.{◌+◌, get_or, sym, ◌∙◌}
use Rattle.std.proofs.lemmas.Bool.{both_ways, eq-eqb}
use Rattle.std.proofs.lemmas.Option.{slice_get-get_or}
use Rattle.aero_leads.proofs.Leasts.{lead, lowered_next, none_before, none_next}
use Rattle.aero_leads.proofs.row.lower_all.Goals as goal

pub loop-lead-preserved : goal.loop-lead-preserved
loop-lead-preserved c =
    let l = get_or c.args.other.now c.loop-lead.lead-index (lead 0 0) in
    let at = slice_get-get_or c.args.other.now c.loop-lead.lead-index (lead 0 0) c.loop-lead-test.true in
    record {
      lowered = lowered_next c.args.row.now.items c.loop-lead.row.items c.args.other.now c.loop-lead.lead-index l c.args.place c.lower.new.row.items
          at c.loop-lead.invariant.lowered c.in_ok-lower.ensures.lowers;
      listed = λ h. c.lower.ensures.listed (c.loop-lead.invariant.listed h);
      indexed = c.in_ok-lower.ensures.indexed;
      single = λ h. c.lower.ensures.single (c.loop-lead.invariant.single h);
      grows = λ w o h. c.lower.ensures.grows w o (c.loop-lead.invariant.grows w o h);
      others = λ v h.
          let n = none_next c.args.other.now c.loop-lead.lead-index l v at h in
          c.lower.ensures.others v (λ e. both_ways _ n.0 (eq-eqb l.opener v (sym e))) ∙ c.loop-lead.invariant.others v n.1;
    }

pub returns-in_err-lower-clause-others : goal.returns-in_err-lower-clause-others
returns-in_err-lower-clause-others c = λ v h.
    let l = get_or c.args.other.now c.loop-lead.lead-index (lead 0 0) in
    let at = slice_get-get_or c.args.other.now c.loop-lead.lead-index (lead 0 0) c.loop-lead-test.true in
    let n = none_next c.args.other.now c.loop-lead.lead-index l v at (none_before c.args.other.now (c.loop-lead.lead-index + 1) v h) in
    c.lower.ensures.others v (λ e. both_ways _ n.0 (eq-eqb l.opener v (sym e))) ∙ c.loop-lead.invariant.others v n.1
