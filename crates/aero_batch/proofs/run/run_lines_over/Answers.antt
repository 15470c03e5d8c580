use Rattle.std.proofs.Common.{map}
use Rattle.aero_model.specs.CallCounts.{seen_by}
use Rattle.aero_telling.specs.Founds.{sighted}
use Rattle.aero_telling.proofs.Tellings.{no_labels, refused_at_once}
use Rattle.aero_batch.proofs.run.run_lines_over.Goals as goal
use Rattle.aero_intake.specs.PlanTerms.{terms_of}

pub returns-in_default-clause-told : goal.returns-in_default-clause-told
returns-in_default-clause-told g c =
    rw (c.refused.ensures.endings, c.refused.ensures.notables, c.refused.ensures.counts, c.refused.ensures.cause)
    (refused_at_once (terms_of c.args.setting.now.plan.now) c.args.setting.now.plan.now.form (map (sighted g.R.Followed.sight) c.args.sources.now)
    (seen_by g.W.Write.contents c.args.writer.now))

pub returns-in_default-clause-labels : goal.returns-in_default-clause-labels
returns-in_default-clause-labels g c =
    rw (c.refused.ensures.endings)
    (no_labels (terms_of c.args.setting.now.plan.now) (map (sighted g.R.Followed.sight) c.args.sources.now) (map (sighted g.R.Followed.sight) c.args.sources.now) c.refused.result.begun
    c.refused.ensures.begun)
