use Rattle.std.proofs.Common.{◌∷◌, [], ◌∙◌, refl}
use Rattle.aero_model.specs.declared.numbered.What.TheVariants.{Join}
use Rattle.aero_engine.specs.Events.{event}
use Rattle.aero_leads.specs.Kept.{last}
use Rattle.aero_leads.specs.Standing.{state_in}
use Rattle.aero_leads.proofs.Moving.{moves_taking, or_false, after_quiet}
use Rattle.aero_leads.proofs.MovingTaken.{taken_join}
use Rattle.aero_leads.proofs.kept.Kept.join.Goals as goal

pub returns-clause-moves : goal.returns-clause-moves
returns-clause-moves c =
    let old = state_in c.args.self.now in
    let e = event c.args.t (Join c.args.u) in
    moves_taking old _ e (last c.args.u old.now ∷ []) (λ h stands ok. taken_join old c.args.t c.args.u c.requires.other c.requires.acted h stands) c.in_ok-closes.closes
    (λ u. refl) (c.in_ok-closes.ensures.closing ∙ or_false _) c.in_ok-closes.ensures.takes
    (after_quiet old _ e (λ x. refl) (λ x. refl) (λ x. refl) (λ l. refl) refl (record { in_block = c.take.ensures.same.in_block; begins = c.take.ensures.same.begins; acted = c.take.ensures.same.acted }))
