use Rattle.std.proofs.Common.{◌≡◌, ◌<◌, ◌≤◌, ◌∙◌, List, ℕ, [], length, get_or, true, false, refl, sym, ap, subst, arith}
use Rattle.std.specs.Prelude.{bytes_eq}
use Rattle.std.specs.List.{list_any}
use Rattle.std.proofs.lemmas.Option.{get_or_from_slice_get, slice_get_read}
use Rattle.aero_intake.proofs.Surveyed.{next_fails, none_next, one_more_holds, stands_there}
use Rattle.aero_intake.proofs.survey.first_without.Goals as goal

pub loop-place-preserved : goal.loop-place-preserved
loop-place-preserved c = λ holds noted before.
    let labels : List (List ℕ) = c.labels-labels.result.now in
    let n : ℕ = c.loop-place.place in
    let label : List ℕ = c.index-labels-place.result in
    let at : get_or labels n [] ≡ label = get_or_from_slice_get labels n label [] (slice_get_read labels (length labels) n label refl c.loop-place-test.true c.index-labels-place.is) in
    one_more_holds c.args.except.now.labels holds n (subst (λ ls. n < length ls) c.labels-labels.ensures c.loop-place-test.true) (c.loop-place.invariant holds noted before)
    (ap (λ ls. holds (get_or ls n [])) (sym c.labels-labels.ensures) ∙ (ap holds (at ∙ sym c.bytes.ensures) ∙ (sym (c.has_begun.ensures holds noted) ∙ c.if-has_begun.true)))

pub has_begun-requires : goal.has_begun-requires
has_begun-requires c =
    let all : List (List ℕ) = c.args.except.now.labels in
    let labels : List (List ℕ) = c.labels-labels.result.now in
    let n : ℕ = c.loop-place.place in
    let label : List ℕ = c.index-labels-place.result in
    let at : get_or labels n [] ≡ label = get_or_from_slice_get labels n label [] (slice_get_read labels (length labels) n label refl c.loop-place-test.true c.index-labels-place.is) in
    let here : get_or all n [] ≡ c.bytes.result.now = ap (λ ls. get_or ls n []) (sym c.labels-labels.ensures) ∙ (at ∙ sym c.bytes.ensures) in
    subst (λ l. list_any (bytes_eq l) all ≡ true) here (stands_there all n (subst (λ ls. n < length ls) c.labels-labels.ensures c.loop-place-test.true))
