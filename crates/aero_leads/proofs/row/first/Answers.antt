use Rattle.std.proofs.Common.{ap, sym, ◌∙◌, get_or, Some}
use Rattle.std.proofs.lemmas.Bool.{cond-true, cond-false, eq-eqb, ne_eqb}
use Rattle.std.proofs.lemmas.Option.{slice_get-get_or}
use Rattle.aero_leads.specs.Steps.{lesser}
use Rattle.aero_leads.proofs.Leasts.{lead, least_next}
use Rattle.aero_leads.proofs.row.first.Goals.{then-lead-w, else-lead-w}
use Rattle.aero_leads.proofs.row.first.Goals as goal

pub loop-lead-preserved : goal.loop-lead-preserved
loop-lead-preserved c =
    let l = get_or c.args.row.now c.loop-lead.lead-index (lead 0 0) in
    let next = least_next c.args.row.now c.loop-lead.lead-index l c.args.w (slice_get-get_or c.args.row.now c.loop-lead.lead-index (lead 0 0) c.loop-lead-test.true) in
    record {
      least = elim c.if-lead-w.branch [
        | then-lead-w w ↦ w.least-is ∙ w.least_of.ensures ∙ ap (λ r. lesser r (Some l.place)) c.loop-lead.invariant.least ∙ sym (next ∙ cond-true _ _ _ (eq-eqb l.opener c.args.w w.if-lead-w.true))
        | else-lead-w w ↦ w.least-is ∙ c.loop-lead.invariant.least ∙ sym (next ∙ cond-false _ _ _ (ne_eqb l.opener c.args.w w.if-lead-w.false))
      ];
    }
