use Rattle.std.proofs.Common.{◌≡◌, ◌∷◌, [], ◌∙◌, ap, sym, subst, refl}
use Rattle.std.specs.Prelude.{slice_get}
use Rattle.aero_model.specs.declared.numbered.What.TheVariants.{Acquire}
use Rattle.aero_engine.specs.Events.{event}
use Rattle.aero_leads.specs.Kept.{last_or_none}
use Rattle.aero_leads.specs.Standing.{state_in}
use Rattle.aero_leads.proofs.Moving.{IsTaken, moves_taking, or_false, after_quiet}
use Rattle.aero_leads.proofs.MovingTaken.{taken_acquire}
use Rattle.aero_leads.proofs.kept.Kept.acquire.Goals as goal

pub returns-clause-moves : goal.returns-clause-moves
returns-clause-moves c =
    let old = state_in c.args.self.now in
    let e = event c.args.t (Acquire c.args.l) in
    let release : c.last_release-release.result ≡ old.release c.args.l = c.last_release-release.ensures ∙ ap (λ xs. last_or_none (slice_get xs c.args.l)) c.deref.ensures.value in
    moves_taking old _ e (c.last_release-release.result ∷ [])
    (λ h stands ok. subst (λ l. IsTaken old h e (l ∷ [])) (sym release) (taken_acquire old c.args.t c.args.l h stands)) c.in_ok-closes.closes
    (λ u. refl) (c.in_ok-closes.ensures.closing ∙ or_false _) c.in_ok-closes.ensures.takes
    (after_quiet old _ e (λ x. refl) (λ x. refl) (λ x. refl) (λ l. refl) refl (record { in_block = c.take.ensures.same.in_block; begins = c.take.ensures.same.begins; acted = c.take.ensures.same.acted }))
