use Rattle.std.proofs.Common.{◌≡◌, ◌<◌, ◌+◌, ℕ, suc, arith, length, get_or, set, take, drop, ◌++◌, max, ap, ◌∙◌}
use Rattle.std.proofs.lemmas.Option.{slice_get-get_or}
use Rattle.aero_clock.specs.Pairs.{number_in, raised_to}
use Rattle.aero_clock.proofs.Merges.{raised_front, raised_step, raised_pair}
use Rattle.aero_clock.proofs.pairs.raise_all.Goals as goal

pub loop-i-preserved : goal.loop-i-preserved
loop-i-preserved c =
    let ok : c.loop-i.i < length c.args.pairs.now = omega (arith, c.loop-i-test.true, c.loop-i.auto.pairs) in
    let here = slice_get-get_or c.args.pairs.now c.loop-i.i (0, 0) ok in
    let same : get_or c.loop-i.pairs c.loop-i.i (0, 0) ≡ get_or c.args.pairs.now c.loop-i.i (0, 0) = ap (λ (xs : _). get_or xs c.loop-i.i (0, 0)) c.loop-i.invariant.so_far ∙ raised_front c.args.others.now c.args.pairs.now c.loop-i.i ok in
    let thread : (get_or c.loop-i.pairs c.loop-i.i (0, 0)).0 ≡ (get_or c.args.pairs.now c.loop-i.i (0, 0)).0 = ap (λ (r : ℕ × ℕ). r.0) same in
    record {
      within = c.skip-at.ensures.place.within;
      below = λ k m p q less at_k more at_m. omega (arith, thread, c.skip-at.ensures.place.below k p less at_k, c.requires.rising c.loop-i.i m (get_or c.args.pairs.now c.loop-i.i (0, 0)) q (omega (arith, more)) here at_m);
      so_far =
          let next : suc c.loop-i.i ≡ c.loop-i.i + 1 = omega arith in
          let number : c.max.result ≡ max (get_or c.loop-i.pairs c.loop-i.i (0, 0)).1 (number_in c.args.others.now (get_or c.loop-i.pairs c.loop-i.i (0, 0)).0) = omega (arith, c.max.ensures, c.number_here.ensures) in
          ap (λ n. set c.loop-i.pairs c.loop-i.i ((get_or c.loop-i.pairs c.loop-i.i (0, 0)).0, n)) number
          ∙ ap (λ (r : ℕ × ℕ). set c.loop-i.pairs c.loop-i.i (raised_pair c.args.others.now r)) same
          ∙ ap (λ xs. set xs c.loop-i.i (raised_pair c.args.others.now (get_or c.args.pairs.now c.loop-i.i (0, 0)))) c.loop-i.invariant.so_far
          ∙ raised_step c.args.others.now c.args.pairs.now c.loop-i.i ok
          ∙ ap (λ n. raised_to c.args.others.now (take n c.args.pairs.now) ++ drop n c.args.pairs.now) next;
    }
