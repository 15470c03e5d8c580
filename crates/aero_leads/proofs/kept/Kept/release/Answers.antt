use Rattle.std.proofs.Common.{[], ◌∙◌, ap, refl, if◌then◌else◌}
use Rattle.std.specs.Prelude.{◌==◌}
use Rattle.aero_model.specs.declared.numbered.What.TheVariants.{Release}
use Rattle.aero_engine.specs.Events.{event}
use Rattle.aero_leads.specs.Standing.{state_in}
use Rattle.aero_leads.proofs.Takings.{takes_nothing}
use Rattle.aero_leads.proofs.Moving.{moves_passing, after_quiet}
use Rattle.aero_leads.proofs.MovingTaken.{taken_release}
use Rattle.aero_leads.proofs.kept.Kept.release.Goals as goal

pub returns-clause-moves : goal.returns-clause-moves
returns-clause-moves c =
    let old = state_in c.args.self.now in
    let e = event c.args.t (Release c.args.l) in
    moves_passing old _ e [] (λ h stands ok. taken_release old c.args.t c.args.l h) (λ u. refl) refl (takes_nothing old.rows old.now c.args.t [] (λ w. refl))
    (after_quiet old _ e (λ x. refl) (λ x. refl) (λ x. refl)
    (λ m. c.in_ok-note_release.ensures m ∙ ap (λ l. if m == c.args.l then l else old.release m) c.event-event.ensures)
    refl (record { in_block = λ u. refl; begins = λ u. refl; acted = λ u. refl }))
