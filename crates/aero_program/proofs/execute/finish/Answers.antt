use Rattle.std.proofs.Common.{◌≡◌, ◌∙◌, subst}
use Rattle.std.specs.Prelude.{IfOk}
use Rattle.aero_program.proofs.Tells.{is_told, ends_well, ends_failing, ends_cut, fails_unnoted}
use Rattle.aero_program.proofs.execute.finish.Goals as goal

pub returns-in-Err : goal.returns-in-Err
returns-in-Err g c = λ text are.
    fails_unnoted text c.args.end c.in-Err.failure _ _ c.fail-in-Err.result c.in-Err.is c.fail-in-Err.ensures

pub returns-in-Ok-end-2 : goal.returns-in-Ok-end-2
returns-in-Ok-end-2 g c = λ text are.
    ends_well text c.args.end c.in-Ok-end-2.status _ _ c.deref.result.now c.in-Ok-end-2.is
    (c.deref.ensures.value ∙ subst (λ r. IfOk r (λ notes. notes.items ≡ text)) c.in-Ok.is are)
    (is_told c.tell-told.result _ _ c.deref.result.now c.tell-told.ensures.whole c.tell-told.ensures.cut)

pub returns-in-Ok-told : goal.returns-in-Ok-told
returns-in-Ok-told g c = λ text are.
    ends_failing text c.args.end c.in-Err-end.failure _ _ _ c.deref.result.now c.fail-in-Ok-told.result c.in-Err-end.is
    (c.deref.ensures.value ∙ subst (λ r. IfOk r (λ notes. notes.items ≡ text)) c.in-Ok.is are) c.in-Ok-told.ensures.whole c.fail-in-Ok-told.ensures

pub returns : goal.returns
returns g c = λ text are.
    ends_cut text c.args.end c.in-Err-end.failure _ _ c.deref.result.now c.status.result c.in-Err-end.is
    (c.deref.ensures.value ∙ subst (λ r. IfOk r (λ notes. notes.items ≡ text)) c.in-Ok.is are) c.in-Err-told.ensures.cut c.status.ensures
