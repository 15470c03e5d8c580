use Rattle.std.proofs.Common.{ap, sym, ◌∙◌, get_or, Some}
use Rattle.std.proofs.lemmas.Bool.{ne_eqb}
use Rattle.std.proofs.lemmas.Option.{slice_get-get_or}
use Rattle.aero_leads.specs.Indexed.{opener_of}
use Rattle.aero_leads.proofs.Leasts.{lead, found_there, none_still}
use Rattle.aero_leads.proofs.row.has.Goals as goal

pub returns-then-lead-w : goal.returns-then-lead-w
returns-then-lead-w c =
    sym (found_there c.args.row.now c.loop-lead.lead-index c.args.w (ap opener_of (slice_get-get_or c.args.row.now c.loop-lead.lead-index (lead 0 0) c.loop-lead-test.true) ∙ ap Some c.if-lead-w.true))

pub loop-lead-preserved : goal.loop-lead-preserved
loop-lead-preserved c =
    let l = get_or c.args.row.now c.loop-lead.lead-index (lead 0 0) in
    record {
      none = none_still c.args.row.now c.loop-lead.lead-index l c.args.w (slice_get-get_or c.args.row.now c.loop-lead.lead-index (lead 0 0) c.loop-lead-test.true)
          (ne_eqb l.opener c.args.w c.if-lead-w.false) c.loop-lead.invariant.none;
    }
