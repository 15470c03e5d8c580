use Rattle.std.proofs.Common.{sym, subst}
use Rattle.aero_telling.specs.declared.told.Told.{Told}
use Rattle.aero_intake.specs.PlanTerms.{terms_of}
use Rattle.aero_lanes.proofs.Tellings.{stands_on}
use Rattle.aero_lanes.specs.Tellings.{StandsSo}
use Rattle.aero_lanes.proofs.steps.advance.Goals as goal
use Rattle.aero_model.specs.CallCounts.{Seen, seen_by}

pub returns-clause-stands : goal.returns-clause-stands
returns-clause-stands g c = λ origin before st.
    let terms = terms_of c.args.shared.plan.now in
    let form = c.args.shared.plan.now.form in
    let mid = seen_by g.W.Write.contents c.args.writer.now in
    let same = c.in_ok-tell_ready.ensures.unchanged c.if-branch.false in
    let next = stands_on g.R.Followed.sight terms form origin before mid c.args.lanes.now.seats.items c.move_on.new.lanes.seats.items c.args.told.now c.move_on.ensures.goes st in
    subst (λ (s : Seen). StandsSo g.R.Followed.sight terms form origin before s c.move_on.new.lanes.seats.items c.tell_ready.new.told) (sym same.0)
    (subst (λ (t : Told). StandsSo g.R.Followed.sight terms form origin before mid c.move_on.new.lanes.seats.items t) (sym same.1) next)
