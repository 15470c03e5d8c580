use Rattle.std.proofs.Common.{◌∙◌, ap, sym, get_or, ⊎_elim}
use Rattle.std.specs.Prelude.{◌==◌}
use Rattle.std.proofs.lemmas.Bool.{eqb-true, or_cases, or_left, or_right}
use Rattle.std.proofs.lemmas.Option.{slice_get-get_or}
use Rattle.aero_leads.specs.Seen.{seen_at}
use Rattle.aero_leads.proofs.Leasts.{lead, some_next}
use Rattle.aero_leads.proofs.seen.see_each.Goals as goal

pub loop-lead-preserved : goal.loop-lead-preserved
loop-lead-preserved c =
    let l = get_or c.args.row.now c.loop-lead.lead-index (lead 0 0) in
    let at = slice_get-get_or c.args.row.now c.loop-lead.lead-index (lead 0 0) c.loop-lead-test.true in
    record {
      kept = λ w h. c.see_too-all.ensures.kept w (c.loop-lead.invariant.kept w h);
      here = λ w h.
          ⊎_elim
          (λ was. ⊎_elim (λ before. or_left _ _ before) (λ k. or_right (seen_at c.args.openers.now.items w) _ (some_next c.args.row.now c.loop-lead.lead-index l w at ∙ or_right (l.opener == w) _ k)) (or_cases _ _ (c.loop-lead.invariant.here w was)))
          (λ e. or_right (seen_at c.args.openers.now.items w) _ (some_next c.args.row.now c.loop-lead.lead-index l w at ∙ or_left _ _ e))
          (or_cases _ _ (c.see_too-all.ensures.so w h));
      whole = λ all w some.
          ⊎_elim
          (λ e. ap (seen_at c.see_too-all.new.openers.items) (sym (eqb-true l.opener w e)) ∙ c.see_too-all.ensures.here all)
          (λ k. c.see_too-all.ensures.kept w (c.loop-lead.invariant.whole (c.see_too-all.ensures.before all) w k))
          (or_cases _ _ (sym (some_next c.args.row.now c.loop-lead.lead-index l w at) ∙ some));
    }
