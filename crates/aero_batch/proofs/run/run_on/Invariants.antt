-- What holds between two steps.
use Rattle.std.proofs.Common.{map}
use Rattle.aero_model.specs.CallCounts.{seen_by}
use Rattle.aero_telling.specs.Founds.{sighted}
use Rattle.aero_batch.specs.Runs.{StandsBy}
use Rattle.aero_batch.proofs.run.run_on.Given as goal

abbrev pub invariant-steps : goal.invariant-steps
invariant-steps g l =
    StandsBy l.setting.plan.now (map (sighted g.R.Followed.sight) l.fn.sources) (map (sighted g.R.Followed.sight) l.sources)
    (seen_by g.W.Write.contents l.fn.writer) (seen_by g.W.Write.contents l.writer) l.standing.underway l.standing.told
