use Rattle.std.proofs.Common.{◌∙◌, ap, sym, subst, get_or, arith}
use Rattle.std.specs.Prelude.{slice_set}
use Rattle.std.proofs.lemmas.Option.{slice_get-get_or}
use Rattle.aero_leads.specs.Single.{IsSingle}
use Rattle.aero_leads.proofs.Leasts.{lead, lowered_first_none, lowered_first_next, lowered_first_all, openers_lowered}
use Rattle.aero_leads.proofs.Singles.{single_same}
use Rattle.aero_leads.proofs.row.lower_each.Goals as goal

pub loop-lead-init : goal.loop-lead-init
loop-lead-init c = record { lowered = lowered_first_none c.args.place c.args.row.now }

pub loop-lead-preserved : goal.loop-lead-preserved
loop-lead-preserved c =
    let l = get_or c.loop-lead.row c.loop-lead.lead-index (lead 0 0) in
    record {
      lowered =
          ap (λ n. slice_set c.loop-lead.row c.loop-lead.lead-index (lead l.opener n)) c.min-lead.ensures
          ∙ lowered_first_next c.args.place c.loop-lead.lead-index c.args.row.now c.loop-lead.row l c.loop-lead.invariant.lowered (slice_get-get_or c.loop-lead.row c.loop-lead.lead-index (lead 0 0) (omega (arith, c.loop-lead-test.true, c.loop-lead.auto.row)));
    }

pub returns-clause-lowers : goal.returns-clause-lowers
returns-clause-lowers c = λ w. lowered_first_all c.args.place c.loop-lead.lead-index c.args.row.now c.loop-lead.row w c.loop-lead.invariant.lowered (omega (arith, c.loop-lead-test.false, c.loop-lead.auto.row))

pub returns-clause-single : goal.returns-clause-single
returns-clause-single c = λ single. subst IsSingle (sym c.loop-lead.invariant.lowered) (single_same c.args.row.now _ (openers_lowered c.args.place c.loop-lead.lead-index c.args.row.now) single)
