use Rattle.std.proofs.Common.{◌≡◌, ℕ, List, Some, subst}
use Rattle.std.specs.Prelude.{slice_get}
use Rattle.std.proofs.lemmas.Bool.{eq-eqb, eqb-true}
use Rattle.aero_model.specs.Blocks.{transaction}
use Rattle.aero_witness.proofs.Nests.{one_first, same_by_first}
use Rattle.aero_witness.proofs.telling.is_one.Goals as goal

pub returns : goal.returns
returns c =
    let trace = c.args.events.now in
    let first = subst (λ (xs : List ℕ). slice_get xs c.args.first ≡ Some c.first_at.result) c.deref.ensures.value c.first_at.ensures in
    let second = subst (λ (xs : List ℕ). slice_get xs c.args.second ≡ Some c.first_at-2.result) c.deref-2.ensures.value c.first_at-2.ensures in
    let of_first = c.requires.of.firsts.at c.args.first c.first_at.result first in
    let of_second = c.requires.of.firsts.at c.args.second c.first_at-2.result second in (
      (λ h. same_by_first trace (transaction trace c.args.first) (transaction trace c.args.second) c.first_at.result c.first_at-2.result of_first of_second (eqb-true c.first_at.result c.first_at-2.result h)),
      λ h. eq-eqb c.first_at.result c.first_at-2.result (one_first trace (transaction trace c.args.first) (transaction trace c.args.second) c.first_at.result c.first_at-2.result of_first of_second h),
    )
