use Rattle.std.proofs.Common.{◌≡◌, ◌<◌, ◌+◌, ℕ, suc, arith, length, get_or, set, take, drop, ◌++◌, max, ap, ◌∙◌}
use Rattle.aero_clock.specs.Pairs.{number_in, raised_to}
use Rattle.aero_clock.proofs.Merges.{raised_front, raised_step, raised_pair, raised_end, front_number, front_rest}
use Rattle.aero_clock.proofs.pairs.raise_front.Goals as goal

pub loop-i-preserved : goal.loop-i-preserved
loop-i-preserved c =
    let ok : c.loop-i.i < length c.args.pairs.now = omega (arith, c.loop-i-test.true, c.requires.front.within) in
    let same : get_or c.loop-i.pairs c.loop-i.i (0, 0) ≡ get_or c.args.pairs.now c.loop-i.i (0, 0) = ap (λ (xs : _). get_or xs c.loop-i.i (0, 0)) c.loop-i.invariant ∙ raised_front c.args.others.now c.args.pairs.now c.loop-i.i ok in
    let other : number_in c.args.others.now (get_or c.args.pairs.now c.loop-i.i (0, 0)).0 ≡ (get_or c.args.others.now c.loop-i.i (0, 0)).1 = front_number c.args.pairs.now c.args.others.now c.loop-i.i c.requires.other c.requires.front c.loop-i-test.true in
    let old : (get_or c.loop-i.pairs c.loop-i.i (0, 0)).1 ≡ (get_or c.args.pairs.now c.loop-i.i (0, 0)).1 = ap (λ (r : ℕ × ℕ). r.1) same in
    let number : c.max.result ≡ max (get_or c.args.pairs.now c.loop-i.i (0, 0)).1 (number_in c.args.others.now (get_or c.args.pairs.now c.loop-i.i (0, 0)).0) = omega (arith, c.max.ensures, other, old) in
    let next : suc c.loop-i.i ≡ c.loop-i.i + 1 = omega arith in
    ap (λ n. set c.loop-i.pairs c.loop-i.i ((get_or c.loop-i.pairs c.loop-i.i (0, 0)).0, n)) number
    ∙ ap (λ (r : ℕ × ℕ). set c.loop-i.pairs c.loop-i.i (r.0, max (get_or c.args.pairs.now c.loop-i.i (0, 0)).1 (number_in c.args.others.now (get_or c.args.pairs.now c.loop-i.i (0, 0)).0))) same
    ∙ ap (λ xs. set xs c.loop-i.i (raised_pair c.args.others.now (get_or c.args.pairs.now c.loop-i.i (0, 0)))) c.loop-i.invariant
    ∙ raised_step c.args.others.now c.args.pairs.now c.loop-i.i ok
    ∙ ap (λ n. raised_to c.args.others.now (take n c.args.pairs.now) ++ drop n c.args.pairs.now) next

pub returns : goal.returns
returns c =
    c.loop-i.invariant
    ∙ raised_end c.args.others.now c.args.pairs.now c.loop-i.i (λ k p le at. front_rest c.args.pairs.now c.args.others.now c.requires.rising c.requires.front k p (omega (arith, le, c.loop-i-test.false)) at)
