use Rattle.std.proofs.Common.{refl, ◌≡◌, ◌<◌, ℕ, refl, length, get_or, subst, sym, ap, ◌∙◌, arith}
use Rattle.std.proofs.lemmas.List.{get_or_default}
use Rattle.aero_clock.specs.Pairs.{number_in, IsPlace}
use Rattle.aero_clock.proofs.Lists.{stands_at}
use Rattle.aero_clock.proofs.Merges.{inserted, counted}
use Rattle.aero_clock.proofs.pairs.raise.Goals as goal

pub index_mut-requires : goal.index_mut-requires
index_mut-requires c =
    let place = subst (λ ps. IsPlace ps c.args.t c.place-at.result) c.deref.ensures.value c.place-at.ensures in
    let number : c.number_here-number.result ≡ number_in c.args.pairs.now.items c.args.t = c.number_here-number.ensures ∙ ap (λ ps. number_in ps c.args.t) c.deref-2.ensures.value in
    let there : c.place-at.result < length c.args.pairs.now.items = (stands_at c.args.pairs.now.items c.args.t c.place-at.result c.requires.rising place (omega (arith, number, c.if-number-eq0.false))).0 in
    omega (arith, there, c.deref.ensures.len, ap length c.deref.ensures.value)

pub returns-in_ok-insert-clause-ok : goal.returns-in_ok-insert-clause-ok
returns-in_ok-insert-clause-ok c =
    let place = subst (λ ps. IsPlace ps c.args.t c.place-at.result) c.deref.ensures.value c.place-at.ensures in
    let number : c.number_here-number.result ≡ number_in c.args.pairs.now.items c.args.t = c.number_here-number.ensures ∙ ap (λ ps. number_in ps c.args.t) c.deref-2.ensures.value in
    (inserted c.args.pairs.now.items c.insert.new.self.items c.args.t c.place-at.result c.requires.rising c.requires.nonzero place (omega (arith, number, c.if-number-eq0.true)) c.in_ok-insert.ensures.items).number

pub returns-in_ok-insert-clause-rising : goal.returns-in_ok-insert-clause-rising
returns-in_ok-insert-clause-rising c =
    let place = subst (λ ps. IsPlace ps c.args.t c.place-at.result) c.deref.ensures.value c.place-at.ensures in
    let number : c.number_here-number.result ≡ number_in c.args.pairs.now.items c.args.t = c.number_here-number.ensures ∙ ap (λ ps. number_in ps c.args.t) c.deref-2.ensures.value in
    (inserted c.args.pairs.now.items c.insert.new.self.items c.args.t c.place-at.result c.requires.rising c.requires.nonzero place (omega (arith, number, c.if-number-eq0.true)) c.in_ok-insert.ensures.items).rising

pub returns-in_ok-insert-clause-nonzero : goal.returns-in_ok-insert-clause-nonzero
returns-in_ok-insert-clause-nonzero c =
    let place = subst (λ ps. IsPlace ps c.args.t c.place-at.result) c.deref.ensures.value c.place-at.ensures in
    let number : c.number_here-number.result ≡ number_in c.args.pairs.now.items c.args.t = c.number_here-number.ensures ∙ ap (λ ps. number_in ps c.args.t) c.deref-2.ensures.value in
    (inserted c.args.pairs.now.items c.insert.new.self.items c.args.t c.place-at.result c.requires.rising c.requires.nonzero place (omega (arith, number, c.if-number-eq0.true)) c.in_ok-insert.ensures.items).nonzero

pub returns-else-number-eq0-clause-ok : goal.returns-else-number-eq0-clause-ok
returns-else-number-eq0-clause-ok c =
    let place = subst (λ ps. IsPlace ps c.args.t c.place-at.result) c.deref.ensures.value c.place-at.ensures in
    let number : c.number_here-number.result ≡ number_in c.args.pairs.now.items c.args.t = c.number_here-number.ensures ∙ ap (λ ps. number_in ps c.args.t) c.deref-2.ensures.value in
    let there = stands_at c.args.pairs.now.items c.args.t c.place-at.result c.requires.rising place (omega (arith, number, c.if-number-eq0.false)) in
    let thread : c.index_mut.result.now.0 ≡ (get_or c.args.pairs.now.items c.place-at.result (0, 0)).0 = ap (λ (p : ℕ × ℕ). p.0) (c.index_mut.ensures.value ∙ get_or_default c.args.pairs.now.items c.place-at.result c.index_mut.result.now (0, 0) there.0) in
    (counted c.args.pairs.now.items _ c.index_mut.result.now.0 c.args.t c.place-at.result c.number_here-number.result c.requires.rising c.requires.nonzero place (sym number) (omega (arith, c.if-number-eq0.false)) thread refl).number

pub returns-else-number-eq0-clause-rising : goal.returns-else-number-eq0-clause-rising
returns-else-number-eq0-clause-rising c =
    let place = subst (λ ps. IsPlace ps c.args.t c.place-at.result) c.deref.ensures.value c.place-at.ensures in
    let number : c.number_here-number.result ≡ number_in c.args.pairs.now.items c.args.t = c.number_here-number.ensures ∙ ap (λ ps. number_in ps c.args.t) c.deref-2.ensures.value in
    let there = stands_at c.args.pairs.now.items c.args.t c.place-at.result c.requires.rising place (omega (arith, number, c.if-number-eq0.false)) in
    let thread : c.index_mut.result.now.0 ≡ (get_or c.args.pairs.now.items c.place-at.result (0, 0)).0 = ap (λ (p : ℕ × ℕ). p.0) (c.index_mut.ensures.value ∙ get_or_default c.args.pairs.now.items c.place-at.result c.index_mut.result.now (0, 0) there.0) in
    (counted c.args.pairs.now.items _ c.index_mut.result.now.0 c.args.t c.place-at.result c.number_here-number.result c.requires.rising c.requires.nonzero place (sym number) (omega (arith, c.if-number-eq0.false)) thread refl).rising

pub returns-else-number-eq0-clause-nonzero : goal.returns-else-number-eq0-clause-nonzero
returns-else-number-eq0-clause-nonzero c =
    let place = subst (λ ps. IsPlace ps c.args.t c.place-at.result) c.deref.ensures.value c.place-at.ensures in
    let number : c.number_here-number.result ≡ number_in c.args.pairs.now.items c.args.t = c.number_here-number.ensures ∙ ap (λ ps. number_in ps c.args.t) c.deref-2.ensures.value in
    let there = stands_at c.args.pairs.now.items c.args.t c.place-at.result c.requires.rising place (omega (arith, number, c.if-number-eq0.false)) in
    let thread : c.index_mut.result.now.0 ≡ (get_or c.args.pairs.now.items c.place-at.result (0, 0)).0 = ap (λ (p : ℕ × ℕ). p.0) (c.index_mut.ensures.value ∙ get_or_default c.args.pairs.now.items c.place-at.result c.index_mut.result.now (0, 0) there.0) in
    (counted c.args.pairs.now.items _ c.index_mut.result.now.0 c.args.t c.place-at.result c.number_here-number.result c.requires.rising c.requires.nonzero place (sym number) (omega (arith, c.if-number-eq0.false)) thread refl).nonzero
