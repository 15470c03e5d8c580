use Rattle.std.proofs.Common.{◌≡◌, ◌∙◌, List, ℕ, [], ◌∷◌, ◌++◌, ap, subst, sym}
use Rattle.std.proofs.lemmas.Result.{IfOk-weaker}
use Rattle.aero_model.specs.Named.{Named}
use Rattle.aero_faults.specs.Holders.{IsHolder}
use Rattle.aero_faults.specs.Holding.{acquired_by, released_by}
use Rattle.aero_faults.proofs.Holders.{as_before, after_acquire, after_release}
use Rattle.aero_faults.proofs.holder.Holder.after.Goals as goal

pub returns-then-is_acquire_of : goal.returns-then-is_acquire_of
returns-then-is_acquire_of c =
    IfOk-weaker c.acquired.result (λ holder. holder ≡ acquired_by c.args.self c.args.line c.bytes.result.now)
    (λ holder. (before : List (ℕ × Named)) → IsHolder c.args.lock.now before c.args.self → IsHolder c.args.lock.now (before ++ (c.args.line, c.args.event.now) ∷ []) holder)
    (λ holder is before was.
    subst (IsHolder c.args.lock.now (before ++ (c.args.line, c.args.event.now) ∷ [])) (sym (is ∙ ap (acquired_by c.args.self c.args.line) (c.bytes.ensures ∙ ap (λ (e : Named). e.thread) c.event.view_is)))
    (after_acquire before c.args.lock.now c.args.line c.args.event.now (sym c.is_acquire_of.ensures ∙ c.if-is_acquire_of.true) c.args.self was))
    c.acquired.ensures

pub returns-then-is_release_of : goal.returns-then-is_release_of
returns-then-is_release_of c = λ before was.
    subst (IsHolder c.args.lock.now (before ++ (c.args.line, c.args.event.now) ∷ [])) (sym (c.released.ensures ∙ ap (released_by c.args.self) (c.bytes-then-is_release_of.ensures ∙ ap (λ (e : Named). e.thread) c.event.view_is)))
    (after_release before c.args.lock.now c.args.line c.args.event.now (sym c.is_acquire_of.ensures ∙ c.if-is_acquire_of.false)
    (sym c.is_release_of.ensures ∙ c.if-is_release_of.true) c.args.self was)

pub returns-else-is_release_of : goal.returns-else-is_release_of
returns-else-is_release_of c = λ before was.
    as_before before c.args.lock.now c.args.line c.args.event.now (sym c.is_acquire_of.ensures ∙ c.if-is_acquire_of.false)
    (sym c.is_release_of.ensures ∙ c.if-is_release_of.false) c.args.self was
