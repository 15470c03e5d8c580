use Rattle.std.proofs.Common.{rules, ◌≡◌, ◌<◌, ◌≤◌, ℕ, arith, length, get_or, ap, subst, sym, ◌∙◌, ⊎_elim}
use Rattle.std.specs.Prelude.{slice_get}
use Rattle.std.proofs.lemmas.Bool.{cases_eq}
use Rattle.std.proofs.lemmas.Option.{slice_get-get_or, slice_get_within, same_Some}
use Rattle.aero_clock.specs.Pairs.{number_in}
use Rattle.aero_clock.proofs.Lists.{number_some, all_at_most}
use Rattle.aero_clock.proofs.pairs.are_at_most.Goals as goal

pub returns-then-number_here-number : goal.returns-then-number_here-number
returns-then-number_here-number c =
    let here = slice_get-get_or c.args.pairs.now c.loop-i.i (0, 0) c.loop-i-test.true in
    let number : number_in c.args.pairs.now (get_or c.args.pairs.now c.loop-i.i (0, 0)).0 ≡ (get_or c.args.pairs.now c.loop-i.i (0, 0)).1 = number_some c.args.pairs.now c.loop-i.i (get_or c.args.pairs.now c.loop-i.i (0, 0)) c.requires.rising here in
    (λ z. absurd (search rules), λ all. absurd (omega (arith, c.number_here.ensures, c.if-number_here-number.true, number, all (get_or c.args.pairs.now c.loop-i.i (0, 0)).0)))

pub loop-i-preserved : goal.loop-i-preserved
loop-i-preserved c =
    let here = slice_get-get_or c.args.pairs.now c.loop-i.i (0, 0) c.loop-i-test.true in
    record {
      within = c.skip-at.ensures.place.within;
      below = λ k m p q less at_k more at_m. omega (arith, c.skip-at.ensures.place.below k p less at_k, c.requires.rising c.loop-i.i m (get_or c.args.pairs.now c.loop-i.i (0, 0)) q (omega (arith, more)) here at_m);
      so_far = λ k q less at_k.
          ⊎_elim
          (λ (e : k ≡ c.loop-i.i).
          let one : get_or c.args.pairs.now c.loop-i.i (0, 0) ≡ q = same_Some _ q (sym here ∙ ap (slice_get c.args.pairs.now) (sym e) ∙ at_k) in
          subst (λ (r : ℕ × ℕ). r.1 ≤ number_in c.args.others.now r.0) one (omega (arith, c.number_here.ensures, c.if-number_here-number.false)))
          (λ ne. c.loop-i.invariant.so_far k q (omega (arith, less, ne)) at_k)
          (cases_eq k c.loop-i.i);
    }

pub returns : goal.returns
returns c =
    let all = all_at_most c.args.pairs.now c.args.others.now (λ k q at. let within : k < length c.args.pairs.now = slice_get_within c.args.pairs.now k q at in c.loop-i.invariant.so_far k q (omega (arith, within, c.loop-i-test.false)) at) in
    (λ _. all, λ _. search rules)
