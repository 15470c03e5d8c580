use Rattle.std.proofs.Common.{◌≡◌, ◌<◌, List, length, get_or, Option, None, refl, sym, ◌∙◌, subst, arith}
use Rattle.std.proofs.lemmas.Grind.{get_or_default_zero}
use Rattle.aero_witness.specs.declared.reached.Reached.{Reached}
use Rattle.aero_witness.specs.Basis.{IsNextOf}
use Rattle.aero_witness.specs.Reached.{reached_at}
use Rattle.aero_witness.proofs.Fronts.{one_fronted}
use Rattle.aero_witness.proofs.Walked.{one_walked}
use Rattle.aero_witness.proofs.reached.walk.Goals as goal

pub loop-how-preserved : goal.loop-how-preserved
loop-how-preserved c =
    let firsts = c.args.basis.now.transactions.firsts.items in
    let nexts = c.args.basis.now.next.items in
    let cur = c.loop-how.walks.reached.items in
    let place = c.loop-how.place in
    let w = c.loop-how.invariant.walked in
    let test = subst (λ (xs : List (Option Reached)). (place < length xs) × (reached_at xs place ≡ None)) c.deref.ensures.value c.loop-how-test.ensures in
    let l = test.0 in
    let each = w.each in
    let old_each = c.requires.each in
    let next_each = c.requires.next.each in
    let within : place < length firsts = omega arith in
    let is : c.index-place.result.now ≡ get_or nexts place 0 = c.index-place.ensures ∙ get_or_default_zero nexts place c.index-place.result.now (omega arith) in
    record {
      walked = one_walked firsts c.args.from c.args.how c.args.walks.now.reached.items cur c.reach.new.walks.reached.items place c.index-place.result.now w within test.1 (subst (IsNextOf firsts place) (sym is) (c.requires.next.at place (omega arith) within)) c.in_ok-reach.ensures.each c.in_ok-reach.ensures.at;
      front = one_fronted c.args.how.level place c.args.how cur c.reach.new.walks.reached.items c.loop-how.walks.front.items c.reach.new.walks.front.items refl c.loop-how.invariant.front c.in_ok-reach.ensures.at c.in_ok-reach.ensures.front;
    }
