use Rattle.std.proofs.Common.{rules, ◌≡◌, ◌<◌, ◌≤◌, ℕ, arith, length, get_or, ap, subst, sym, ◌∙◌}
use Rattle.std.proofs.lemmas.Option.{slice_get-get_or, slice_get_within, same_Some}
use Rattle.aero_clock.specs.Pairs.{number_in}
use Rattle.aero_clock.proofs.Lists.{number_some, all_at_most}
use Rattle.aero_clock.proofs.pairs.are_at_most_in_place.Goals as goal

pub returns : goal.returns
returns c = λ counted.
    let all : c.loop-i.fitting ≡ length c.args.pairs.now = search (rules, counted) in
    let end : c.loop-i.fitting ≡ c.loop-i.i = omega (arith, all, c.loop-i-test.false, c.loop-i.invariant.few) in
    all_at_most c.args.pairs.now c.args.others.now (λ k q at.
    let within : k < length c.args.pairs.now = slice_get_within c.args.pairs.now k q at in
    let before : k < c.loop-i.i = omega (arith, within, c.loop-i-test.false) in
    let one : get_or c.args.pairs.now k (0, 0) ≡ q = same_Some _ q (sym (slice_get-get_or c.args.pairs.now k (0, 0) within) ∙ at) in
    let there = number_some c.args.others.now k (get_or c.args.others.now k (0, 0)) c.requires (slice_get-get_or c.args.others.now k (0, 0) (omega (arith, within, c.if-pairs-others.false))) in
    let same : number_in c.args.others.now (get_or c.args.pairs.now k (0, 0)).0 ≡ number_in c.args.others.now (get_or c.args.others.now k (0, 0)).0 = ap (number_in c.args.others.now) (c.loop-i.invariant.threads end k before) in
    subst (λ (r : ℕ × ℕ). r.1 ≤ number_in c.args.others.now r.0) one (omega (arith, there, same, c.loop-i.invariant.numbers end k before)))
