use Rattle.std.proofs.Common.{refl}
use Rattle.aero_leads.specs.Standing.{state_in}
use Rattle.aero_leads.proofs.MovingBegin.{moves_begin, after_begin}
use Rattle.aero_leads.proofs.kept.Kept.begin.Goals as goal

pub returns-clause-moves : goal.returns-clause-moves
returns-clause-moves c =
    let b = c.in_ok-begin.ensures.begins in
    moves_begin (state_in c.args.self.now) _ c.args.t c.requires.outside b.rows
    (after_begin (state_in c.args.self.now) _ c.args.t (λ x. refl) (λ x. refl) (λ l. refl) refl b.acted b.begins b.in_block)
