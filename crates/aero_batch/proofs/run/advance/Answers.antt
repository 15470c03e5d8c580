use Rattle.std.proofs.Common.{map, refl, sym, subst, arith}
use Rattle.std.proofs.KnownBytes.{Appends-nil}
use Rattle.aero_model.specs.CallCounts.{Seen, seen_by}
use Rattle.aero_telling.specs.declared.cause.Cause.{Cause}
use Rattle.aero_telling.specs.declared.cause.Cause.TheVariants.{Memory}
use Rattle.aero_telling.specs.declared.told.Told.{Told}
use Rattle.std.specs.Prelude.{Some}
use Rattle.aero_telling.specs.Founds.{sighted}
use Rattle.aero_telling.specs.Labels.{HasTold}
use Rattle.aero_batch.specs.Holding.{Stands}
use Rattle.aero_batch.proofs.Stands.{step_stands, memory_stops}
use Rattle.aero_batch.proofs.run.advance.Goals as goal
use Rattle.aero_intake.specs.PlanTerms.{terms_of}

pub returns-in-Ok-clause-stands : goal.returns-in-Ok-clause-stands
returns-in-Ok-clause-stands g c = λ old before st.
    let terms = (terms_of c.args.setting.now.plan.now) in
    let form = c.args.setting.now.plan.now.form in
    let now = map (sighted g.R.Followed.sight) c.args.sources.now in
    let after = map (sighted g.R.Followed.sight) c.step.new.sources in
    let mid = seen_by g.W.Write.contents c.args.writer.now in
    let same = c.in_ok-tell_ready.ensures.unchanged c.if-branch.false in
    let next = step_stands terms form old now after before mid c.args.standing.now.underway c.step.new.underway c.args.standing.now.told c.in-Ok.ensures.steps
    c.step.ensures.names st in
    subst (λ (s : Seen). Stands terms form old after before s c.step.new.underway c.tell_ready.new.told) (sym same.0)
    (subst (λ (t : Told). Stands terms form old after before mid c.step.new.underway t) (sym same.1) next)

pub returns-in-Err-clause-stopped : goal.returns-in-Err-clause-stopped
returns-in-Err-clause-stopped g c = λ old before st.
    let terms = (terms_of c.args.setting.now.plan.now) in
    let form = c.args.setting.now.plan.now.form in
    let now = map (sighted g.R.Followed.sight) c.args.sources.now in
    let after = map (sighted g.R.Followed.sight) c.step.new.sources in
    let mid = seen_by g.W.Write.contents c.args.writer.now in
    let same = c.in_ok-tell_ready.ensures.unchanged c.if-branch.false in
    let stops = memory_stops terms form old now after before mid mid c.args.standing.now.underway c.args.standing.now.told st
    (λ s less. c.step.ensures.others s (λ e. omega (arith, less, e))) c.step.ensures.names
    (record { went = Appends-nil mid.bytes; faults = refl }) in
    let told = c.tell_ready.new.told in
    subst (λ (x : Cause). HasTold terms form old after before (seen_by g.W.Write.contents c.tell_ready.new.writer) told (Some x)) (sym c.cause_of.ensures)
    (subst (λ (s : Seen). HasTold terms form old after before s told (Some Memory)) (sym same.0)
    (subst (λ (t : Told). HasTold terms form old after before mid t (Some Memory)) (sym same.1) stops))
