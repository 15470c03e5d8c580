use Rattle.std.proofs.Common.{◌<◌, ℕ, List, length, sym, subst}
use Rattle.std.specs.List.{All}
use Rattle.aero_witness.proofs.Starting.{all_within}
use Rattle.aero_witness.proofs.basis.basis_of.Goals as goal

pub next_of-requires-clause-within : goal.next_of-requires-clause-within
next_of-requires-clause-within c =
    subst (λ (xs : List ℕ). All (λ f. f < length xs) xs) (sym c.deref.ensures.value) (all_within c.args.events.now c.in_ok-transactions.transactions.firsts.items c.in_ok-transactions.ensures.firsts)
