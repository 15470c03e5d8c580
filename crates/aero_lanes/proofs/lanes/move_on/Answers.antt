use Rattle.aero_intake.specs.PlanTerms.{terms_of}
use Rattle.aero_lanes.proofs.lanes.move_on.Goals as goal

pub returns-else-may_start-clause-goes : goal.returns-else-may_start-clause-goes
returns-else-may_start-clause-goes g c = c.end_one.ensures.goes (terms_of c.args.shared.plan.now)
