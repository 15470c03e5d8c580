use Rattle.std.proofs.Common.{◌≡◌, ℕ, List, Some, refl, subst}
use Rattle.std.specs.Prelude.{slice_get}
use Rattle.std.proofs.lemmas.Bool.{false≢true}
use Rattle.aero_witness.proofs.Walked.{from_first, from_here}
use Rattle.aero_witness.proofs.reached.leaves_from.Goals as goal

pub returns-then-has_ended : goal.returns-then-has_ended
returns-then-has_ended c =
    from_first c.args.events.now c.args.transactions.now.firsts.items c.requires.of.firsts c.args.enters c.first_at-first.result c.requires.within (subst (λ (xs : List ℕ). slice_get xs c.args.enters ≡ Some c.first_at-first.result) c.deref.ensures.value c.first_at-first.ensures) (c.if-has_ended.ensures.0 refl)

pub returns-else-has_ended : goal.returns-else-has_ended
returns-else-has_ended c =
    from_here c.args.events.now c.args.transactions.now.firsts.items c.requires.of.firsts c.args.enters c.requires.within (λ h. false≢true (c.if-has_ended.ensures.1 h))
