use Rattle.std.proofs.Common.{◌≡◌, ◌<◌, ◌+◌, ◌-◌, ◌==◌, if◌then◌else◌, length, get_or, sym, ◌∙◌, ap, subst, arith}
use Rattle.std.specs.Prelude.{slice_index_or}
use Rattle.std.proofs.lemmas.Grind.{get_or_default_zero}
use Rattle.std.proofs.lemmas.Option.{same_Some, slice_get-get_or}
use Rattle.aero_witness.proofs.Linking.{Linked, one_linked}
use Rattle.aero_witness.proofs.basis.next_of.Goals as goal

pub loop-k-preserved : goal.loop-k-preserved
loop-k-preserved c =
    let firsts = c.args.firsts.now in
    let less = c.loop-k-test.true in
    let place = length firsts - 1 - c.loop-k.k in
    let within : place < length firsts = omega arith in
    let f = c.first_at-first.result in
    let f_is : f ≡ get_or firsts place 0 = same_Some f (get_or firsts place 0) (sym c.first_at-first.ensures ∙ slice_get-get_or firsts place 0 within) in
    let f_within : f < length firsts = subst (λ m. m < length firsts) (sym f_is) (c.requires.within place 0 within) in
    let old = c.loop-k.invariant in
    let latest = c.loop-k.latest.items in
    let each = old.latests.each in
    let was : c.index.result.now ≡ get_or latest f 0 = c.index.ensures ∙ get_or_default_zero latest f c.index.result.now (omega arith) in
    let next = c.loop-k.next.items in
    let linked = one_linked firsts place f (length firsts - c.loop-k.k) (omega arith) c.first_at-first.ensures within f_within latest old.latests next c.put.new.places.items c.put-in-loop-k.new.places.items old.nexts c.put.ensures.each (λ i. c.put.ensures.at i ∙ ap (λ v. if place == i then v else slice_index_or next i 0) was) c.put-in-loop-k.ensures.each c.put-in-loop-k.ensures.at in
    let same : place ≡ length firsts - (c.loop-k.k + 1) = omega arith in
    subst (λ q. Linked firsts q c.put.new.places.items c.put-in-loop-k.new.places.items) same linked
