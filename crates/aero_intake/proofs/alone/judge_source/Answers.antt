use Rattle.aero_intake.specs.PlanTerms.{terms_of}
use Rattle.aero_judge.specs.Judging.{judging_of}
use Rattle.aero_intake.proofs.AloneSteps.{begun_alone}
use Rattle.aero_intake.proofs.alone.judge_source.Goals as goal

pub read_all-requires-clause-stands : goal.read_all-requires-clause-stands
read_all-requires-clause-stands g c =
    let s = c.in-Ok.so_far in
    begun_alone (terms_of c.args.plan.now) (g.R.Followed.sight c.args.reader.now) s.intake (judging_of s.judge) c.in-Ok.ensures.intake c.in-Ok.ensures.judge
