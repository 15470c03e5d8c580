use Rattle.std.proofs.Common.{ℕ, ◌+◌, List, length, sym, ◌∙◌, ap, ap₂, subst}
use Rattle.aero_shape.specs.declared.states.ThreadState.{ThreadState}
use Rattle.aero_shape.specs.States.{Tables, thread_at, around_at}
use Rattle.aero_shape.specs.Standing.{StandsFor}
use Rattle.aero_shape.proofs.Rounds.{open_told}
use Rattle.aero_shape.proofs.shape.Shape.open_blocks.Goals as goal

pub returns : goal.returns
returns c h s =
    let tables : Tables = record { threads = c.self.inside.threads.items; locks = c.self.inside.locks.items; exempt = c.self.inside.exempt.items; admitted = c.self.inside.admitted } in
    ap₂ (λ (d n : ℕ). d + n)
    (ap (λ (x : ThreadState). x.depth) (c.state_at-unexempt.ensures ∙ ap (λ (xs : List ThreadState). thread_at xs c.args.thread) c.deref.ensures.value))
    (c.exempt_blocks.ensures.same ∙ ap (λ (xs : List (List ℕ)). length (around_at xs c.args.thread)) c.deref-2.ensures.value)
    ∙ open_told tables h (subst (λ v. StandsFor v h) (sym c.self.view_is) s) c.args.thread
