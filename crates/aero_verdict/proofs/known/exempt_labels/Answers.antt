use Rattle.std.proofs.Common.{List, ℕ, Bool, ◌++◌, ◌∷◌, [], map, take, ◌<◌, sym, ◌∙◌, ap, ap₂, subst, add-one}
use Rattle.std.specs.Prelude.{Some}
use Rattle.aero_model.specs.Exempt.{leaves_out}
use Rattle.aero_verdict.proofs.KnownNames.{told_next}
use Rattle.aero_verdict.proofs.known.exempt_labels.Goals as goal

pub loop-n-preserved : goal.loop-n-preserved
loop-n-preserved c =
    let f : List ℕ → Bool = λ label. leaves_out c.args.except.now (Some label) in
    c.in_ok-push.ensures.items
    ∙ ap₂ (λ flags flag. flags ++ flag ∷ []) c.loop-n.invariant c.is_left_out.ensures
    ∙ sym (told_next f c.args.labels.now c.loop-n.n (subst (λ n. c.loop-n.n < n) c.len-n-end.ensures c.loop-n-test.true))
    ∙ ap (λ n. map f (take n c.args.labels.now)) (sym (add-one c.loop-n.n))
