use Rattle.std.proofs.Common.{ap, option_map}
use Rattle.aero_model.specs.CallCounts.{seen_by}
use Rattle.aero_program.specs.Retries.{seen_within, tried_by}
use Rattle.aero_program.specs.Streams.{shown_by}
use Rattle.aero_program.proofs.Executing.{executed}
use Rattle.aero_program.proofs.execute.execute.Goals as goal
use Rattle.aero_program.proofs.execute.execute.Goals.{in-Ok, in-Err}

pub returns : goal.returns
returns g c = elim c.match-asked.branch [
  | in-Ok w ↦
      executed _ _ _ _ _ _ _ _ _ _ _ _ _ _ _ _ w.in-Ok.is
      (ap (λ r. option_map (seen_within g.S.Read.remaining) r.1) w.result-is)
      (ap (shown_by g.O.Write.contents) w.output-is)
      (ap (seen_by (λ x. g.E.Write.contents (tried_by x))) w.errors-is)
      (ap (λ r. r.0) w.result-is) w.judge.ensures
  | in-Err w ↦
      executed _ _ _ _ _ _ _ _ _ _ _ _ _ _ _ _ w.in-Err.is
      (ap (λ r. option_map (seen_within g.S.Read.remaining) r.1) w.result-is)
      (ap (shown_by g.O.Write.contents) w.output-is)
      (ap (seen_by (λ x. g.E.Write.contents (tried_by x))) w.errors-is)
      (ap (λ r. r.0) w.result-is) (w.stop_for.ensures.untouched, w.stop_for.ensures.stops)
]
