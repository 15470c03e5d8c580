use Rattle.std.proofs.Common.{ap₂, sym, ◌∙◌, get_or}
use Rattle.std.specs.Prelude.{is_some, ◌||◌}
use Rattle.std.proofs.lemmas.Option.{slice_get-get_or}
use Rattle.aero_leads.specs.Kept.{least_in}
use Rattle.aero_leads.proofs.Leasts.{lead, all_next, below_next, below_there}
use Rattle.aero_leads.proofs.row.brought_by.Goals as goal

pub loop-lead-preserved : goal.loop-lead-preserved
loop-lead-preserved c =
    let l = get_or c.args.other.now c.loop-lead.lead-index (lead 0 0) in
    let at = slice_get-get_or c.args.other.now c.loop-lead.lead-index (lead 0 0) c.loop-lead-test.true in
    record {
      passed = below_next c.args.other.now c.loop-lead.lead-index l c.args.t c.args.below at ∙ ap₂ (λ a b. a || b) c.loop-lead.invariant.passed (sym c.is_of.ensures ∙ c.if-is_of.false);
      known = λ h. all_next (λ u. is_some (least_in c.args.row.now u)) c.args.other.now c.loop-lead.lead-index l c.args.below at
          (c.is_news-news.ensures.here h) (c.loop-lead.invariant.known (c.is_news-news.ensures.before h));
    }

pub returns-then-is_of-clause-closes : goal.returns-then-is_of-clause-closes
returns-then-is_of-clause-closes c =
    let l = get_or c.args.other.now c.loop-lead.lead-index (lead 0 0) in
    sym (below_there c.args.other.now c.loop-lead.lead-index l c.args.t c.args.below (slice_get-get_or c.args.other.now c.loop-lead.lead-index (lead 0 0) c.loop-lead-test.true) (sym c.is_of.ensures ∙ c.if-is_of.true))
