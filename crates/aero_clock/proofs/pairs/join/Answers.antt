use Rattle.std.proofs.Common.{◌≡◌, length, ap, subst, ◌∙◌, arith}
use Rattle.std.proofs.lemmas.List.{with_items_is}
use Rattle.aero_clock.specs.Pairs.{Covers, LeadsWith, merge, raised_to}
use Rattle.aero_clock.proofs.Merges.{front_covers, joined_merge, joined_raised}
use Rattle.aero_clock.proofs.pairs.join.Goals as goal

pub returns-then-leads_with-clause-ok : goal.returns-then-leads_with-clause-ok
returns-then-leads_with-clause-ok c =
    let kept : length c.raise_front.new.pairs ≡ c.args.pairs.now.len = omega (arith, c.raise_front.auto.pairs, c.deref_mut.ensures.len) in
    let front = subst (λ ps. LeadsWith ps c.args.others.now) c.deref.ensures.value (c.leads_with.ensures c.if-leads_with.true) in
    (joined_raised c.args.pairs.now.items c.args.others.now _ c.requires.rising c.requires.nonzero (front_covers c.args.pairs.now.items c.args.others.now c.requires.rising c.requires.nonzero front)
    (with_items_is c.args.pairs.now c.raise_front.new.pairs kept ∙ c.raise_front.ensures ∙ ap (raised_to c.args.others.now) c.deref_mut.ensures.value)).number

pub returns-then-covers-clause-ok : goal.returns-then-covers-clause-ok
returns-then-covers-clause-ok c =
    let kept : length c.raise_all.new.pairs ≡ c.args.pairs.now.len = omega (arith, c.raise_all.auto.pairs, c.deref_mut-then-covers.ensures.len) in
    let covers = subst (λ ps. Covers ps c.args.others.now) c.deref-2.ensures.value (c.covers.ensures.0 c.if-covers.true) in
    (joined_raised c.args.pairs.now.items c.args.others.now _ c.requires.rising c.requires.nonzero covers
    (with_items_is c.args.pairs.now c.raise_all.new.pairs kept ∙ c.raise_all.ensures ∙ ap (raised_to c.args.others.now) c.deref_mut-then-covers.ensures.value)).number

pub returns-clause-ok : goal.returns-clause-ok
returns-clause-ok c =
    (joined_merge c.args.pairs.now.items c.args.others.now _ c.requires.rising c.requires.nonzero c.requires.other c.requires.other_nonzero
    (c.in_ok-pairs.ensures ∙ ap (λ ps. merge ps c.args.others.now) c.deref-3.ensures.value)).number

pub returns-then-leads_with-clause-rising : goal.returns-then-leads_with-clause-rising
returns-then-leads_with-clause-rising c =
    let kept : length c.raise_front.new.pairs ≡ c.args.pairs.now.len = omega (arith, c.raise_front.auto.pairs, c.deref_mut.ensures.len) in
    let front = subst (λ ps. LeadsWith ps c.args.others.now) c.deref.ensures.value (c.leads_with.ensures c.if-leads_with.true) in
    (joined_raised c.args.pairs.now.items c.args.others.now _ c.requires.rising c.requires.nonzero (front_covers c.args.pairs.now.items c.args.others.now c.requires.rising c.requires.nonzero front)
    (with_items_is c.args.pairs.now c.raise_front.new.pairs kept ∙ c.raise_front.ensures ∙ ap (raised_to c.args.others.now) c.deref_mut.ensures.value)).rising

pub returns-then-covers-clause-rising : goal.returns-then-covers-clause-rising
returns-then-covers-clause-rising c =
    let kept : length c.raise_all.new.pairs ≡ c.args.pairs.now.len = omega (arith, c.raise_all.auto.pairs, c.deref_mut-then-covers.ensures.len) in
    let covers = subst (λ ps. Covers ps c.args.others.now) c.deref-2.ensures.value (c.covers.ensures.0 c.if-covers.true) in
    (joined_raised c.args.pairs.now.items c.args.others.now _ c.requires.rising c.requires.nonzero covers
    (with_items_is c.args.pairs.now c.raise_all.new.pairs kept ∙ c.raise_all.ensures ∙ ap (raised_to c.args.others.now) c.deref_mut-then-covers.ensures.value)).rising

pub returns-clause-rising : goal.returns-clause-rising
returns-clause-rising c =
    (joined_merge c.args.pairs.now.items c.args.others.now _ c.requires.rising c.requires.nonzero c.requires.other c.requires.other_nonzero
    (c.in_ok-pairs.ensures ∙ ap (λ ps. merge ps c.args.others.now) c.deref-3.ensures.value)).rising

pub returns-then-leads_with-clause-nonzero : goal.returns-then-leads_with-clause-nonzero
returns-then-leads_with-clause-nonzero c =
    let kept : length c.raise_front.new.pairs ≡ c.args.pairs.now.len = omega (arith, c.raise_front.auto.pairs, c.deref_mut.ensures.len) in
    let front = subst (λ ps. LeadsWith ps c.args.others.now) c.deref.ensures.value (c.leads_with.ensures c.if-leads_with.true) in
    (joined_raised c.args.pairs.now.items c.args.others.now _ c.requires.rising c.requires.nonzero (front_covers c.args.pairs.now.items c.args.others.now c.requires.rising c.requires.nonzero front)
    (with_items_is c.args.pairs.now c.raise_front.new.pairs kept ∙ c.raise_front.ensures ∙ ap (raised_to c.args.others.now) c.deref_mut.ensures.value)).nonzero

pub returns-then-covers-clause-nonzero : goal.returns-then-covers-clause-nonzero
returns-then-covers-clause-nonzero c =
    let kept : length c.raise_all.new.pairs ≡ c.args.pairs.now.len = omega (arith, c.raise_all.auto.pairs, c.deref_mut-then-covers.ensures.len) in
    let covers = subst (λ ps. Covers ps c.args.others.now) c.deref-2.ensures.value (c.covers.ensures.0 c.if-covers.true) in
    (joined_raised c.args.pairs.now.items c.args.others.now _ c.requires.rising c.requires.nonzero covers
    (with_items_is c.args.pairs.now c.raise_all.new.pairs kept ∙ c.raise_all.ensures ∙ ap (raised_to c.args.others.now) c.deref_mut-then-covers.ensures.value)).nonzero

pub returns-clause-nonzero : goal.returns-clause-nonzero
returns-clause-nonzero c =
    (joined_merge c.args.pairs.now.items c.args.others.now _ c.requires.rising c.requires.nonzero c.requires.other c.requires.other_nonzero
    (c.in_ok-pairs.ensures ∙ ap (λ ps. merge ps c.args.others.now) c.deref-3.ensures.value)).nonzero
