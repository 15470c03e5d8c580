use Rattle.std.proofs.Common.{map, sym, subst, ◌∙◌}
use Rattle.std.proofs.lemmas.List.{length-map}
use Rattle.aero_model.specs.CallCounts.{seen_by}
use Rattle.aero_telling.specs.Founds.{sighted}
use Rattle.aero_batch.specs.Holding.{IsBegun}
use Rattle.aero_batch.proofs.Stands.{all_done, begun_stands}
use Rattle.aero_batch.proofs.run.run_on.Goals as goal
use Rattle.aero_intake.specs.PlanTerms.{terms_of}

pub steps-init : goal.steps-init
steps-init g c =
    let old = map (sighted g.R.Followed.sight) c.args.sources.now in
    begun_stands (terms_of c.args.setting.now.plan.now) c.args.setting.now.plan.now.form old
    (seen_by g.W.Write.contents c.args.writer.now) c.args.standing.now.underway c.args.standing.now.told
    (subst (λ n. IsBegun (terms_of c.args.setting.now.plan.now) n c.args.standing.now.underway c.args.standing.now.told)
    (sym (length-map c.args.sources.now (sighted g.R.Followed.sight))) c.requires)

pub returns-then-branch-clause-done : goal.returns-then-branch-clause-done
returns-then-branch-clause-done g c =
    let old = map (sighted g.R.Followed.sight) c.args.sources.now in
    let before = seen_by g.W.Write.contents c.args.writer.now in
    all_done (terms_of c.args.setting.now.plan.now) c.args.setting.now.plan.now.form old (map (sighted g.R.Followed.sight) c.advance.new.sources) before
    (seen_by g.W.Write.contents c.advance.new.writer) c.advance.new.standing.underway c.advance.new.standing.told
    (c.in_ok-advance.ensures.all_told c.if-branch.true ∙ sym (length-map c.advance.new.sources (sighted g.R.Followed.sight)))
    (c.in_ok-advance.ensures.stands old before c.steps.invariant)
