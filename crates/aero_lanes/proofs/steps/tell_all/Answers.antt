use Rattle.std.proofs.Common.{◌∙◌}
use Rattle.aero_intake.specs.PlanTerms.{terms_of}
use Rattle.aero_lanes.proofs.Tellings.{all_so}
use Rattle.aero_lanes.proofs.steps.tell_all.Goals as goal
use Rattle.aero_model.specs.CallCounts.{seen_by}

pub returns-in-Ok-true-clause-stopped : goal.returns-in-Ok-true-clause-stopped
returns-in-Ok-true-clause-stopped g c = λ origin st.
    let before = seen_by g.W.Write.contents c.args.writer.now in
    let seats = c.advance.new.lanes.seats in
    all_so g.R.Followed.sight (terms_of c.args.shared.plan.now) c.args.shared.plan.now.form origin seats.items before (seen_by g.W.Write.contents c.advance.new.writer)
    c.advance.new.told (c.in-Ok-true.ensures.all_told c.in-Ok-true.field-0-test ∙ seats.ok.0)
    (c.in-Ok-true.ensures.stands origin before (c.steps.invariant.2 origin st))

pub returns-in-Err-clause-stopped : goal.returns-in-Err-clause-stopped
returns-in-Err-clause-stopped g c = λ origin st.
    c.in-Err.ensures.stopped origin (seen_by g.W.Write.contents c.args.writer.now) (c.steps.invariant.2 origin st)
