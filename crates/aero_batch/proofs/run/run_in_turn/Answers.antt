use Rattle.std.proofs.Common.{map}
use Rattle.aero_telling.specs.Founds.{sighted}
use Rattle.aero_telling.proofs.Tellings.{no_labels, refused_at_once}
use Rattle.aero_intake.specs.PlanTerms.{terms_of}
use Rattle.aero_batch.proofs.run.run_in_turn.Goals as goal
use Rattle.aero_model.specs.CallCounts.{seen_by}

pub returns-in_default : goal.returns-in_default
returns-in_default g c = record {
  told = rw (c.refused.ensures.endings, c.refused.ensures.notables, c.refused.ensures.counts, c.refused.ensures.cause)
      (refused_at_once (terms_of c.args.plan.now) c.args.plan.now.form (map (sighted g.R.Followed.sight) c.args.sources.items) (seen_by g.W.Write.contents c.args.writer.now));
  labels = rw (c.refused.ensures.endings)
      (no_labels (terms_of c.args.plan.now) (map (sighted g.R.Followed.sight) c.args.sources.items) (map (sighted g.R.Followed.sight) c.args.sources.items) c.refused.result.told.begun
      c.refused.ensures.begun);
}
