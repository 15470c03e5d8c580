use Rattle.std.proofs.Common.{◌≡◌, ℕ, List, length, refl, ◌∙◌, subst, ap}
use Rattle.std.proofs.lemmas.Result.{on_ok_weaker}
use Rattle.aero_witness.specs.Buckets.{head_at, IsTakenTo}
use Rattle.aero_witness.proofs.Taken.{one_drawn}
use Rattle.aero_witness.proofs.buckets.take.Goals as goal

pub returns-clause-drawn : goal.returns-clause-drawn
returns-clause-drawn c =
    let before = c.args.bucket.now.before.items in
    let heads = c.args.bucket.now.heads.items in
    let old = c.args.arrivals.now.items in
    let new = c.take_from.new.arrivals.items in
    let place = c.args.place in
    let number = c.in-Some.number in
    let rest = c.in_ok-low.low in
    let head : c.head.result ≡ head_at heads number = c.head.ensures ∙ ap (λ (xs : List ℕ). head_at xs number) c.deref-2.ensures.value in
    let taken : IsTakenTo before place (head_at heads number) rest old new =
    subst (λ (xs : List ℕ). IsTakenTo xs place (head_at heads number) rest old new) c.deref.ensures.value (subst (λ h. IsTakenTo c.deref.result.now place h rest old new) head c.in_ok-low.ensures) in
    on_ok_weaker c.put.result (λ step s t source links are. one_drawn s t place (length before) heads c.put.new.heads.items old new are number rest before refl (source ∙ c.in-Some.is) links taken step) c.put.ensures
