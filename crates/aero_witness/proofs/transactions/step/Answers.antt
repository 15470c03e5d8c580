use Rattle.std.proofs.Common.{◌∙◌, ap, arith}
use Rattle.aero_witness.specs.declared.transactions.Nest.{Nest}
use Rattle.aero_witness.specs.Parts.{nest_at}
use Rattle.aero_witness.proofs.transactions.step.Goals as goal

pub after-requires : goal.after-requires
after-requires c =
    let at = ap (λ (x : Nest). x.depth) (c.nest_of-before.ensures ∙ ap (λ xs. nest_at xs c.args.event.now.thread) c.deref.ensures.value) in
    omega (arith, at, c.requires.depths c.args.event.now.thread, c.requires.room)
