use Rattle.std.proofs.Common.{refl}
use Rattle.aero_model.specs.declared.numbered.What.TheVariants.{Fork}
use Rattle.aero_engine.specs.Events.{event}
use Rattle.aero_leads.specs.Standing.{state_in}
use Rattle.aero_leads.proofs.Moving.{after_quiet}
use Rattle.aero_leads.proofs.MovingFork.{moves_fork}
use Rattle.aero_leads.proofs.kept.Kept.fork.Goals as goal

pub returns-clause-moves : goal.returns-clause-moves
returns-clause-moves c =
    moves_fork (state_in c.args.self.now) _ c.args.t c.args.u c.in_ok-gain.ensures.gains
    (after_quiet (state_in c.args.self.now) _ (event c.args.t (Fork c.args.u)) (λ x. refl) (λ x. refl) (λ x. refl) (λ l. refl) refl (record { in_block = c.gain.ensures.same.in_block; begins = c.gain.ensures.same.begins; acted = c.gain.ensures.same.acted }))
