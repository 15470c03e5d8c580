use Rattle.std.proofs.Common.{◌<◌, ◌+◌, ℕ, List, [], length, refl, sym, subst}
use Rattle.std.specs.List.{All}
use Rattle.std.proofs.lemmas.List.Sorted.{IsPermutation-sym, Contains-permutation}
use Rattle.aero_witness.specs.Kinds.{outside}
use Rattle.aero_witness.specs.Left.{AreGathered}
use Rattle.aero_witness.proofs.Advancing.{front_within, all_arrivals, swept, still_left, sorted_front, origin_reached}
use Rattle.aero_witness.proofs.rounds.advance.Goals as goal

pub arrivals_of-requires-clause-within : goal.arrivals_of-requires-clause-within
arrivals_of-requires-clause-within c =
    let search = c.args.search.now in
    let at = c.requires.at in
    subst (λ (xs : List ℕ). All (λ i. i < length c.args.events.now) xs) (sym {A = List ℕ} c.deref.ensures.value) (front_within c.args.events.now search.level search.walks.reached.items search.walks.front.items at.front at.levels.each)

pub arrivals_of-requires-clause-buckets : goal.arrivals_of-requires-clause-buckets
arrivals_of-requires-clause-buckets c = (outside c.args.events.now c.args.basis.now.transactions.firsts.items c.args.basis.now.first, c.requires.at.left.buckets)

pub enter_chosen-requires-clause-arrivals : goal.enter_chosen-requires-clause-arrivals
enter_chosen-requires-clause-arrivals c =
    let trace = c.args.events.now in
    let search = c.args.search.now in
    let at = c.requires.at in
    let arrivals = c.in_ok-arrivals.arrivals.items in
    let outer = outside trace c.args.basis.now.transactions.firsts.items c.args.basis.now.first in
    let g = subst (λ (xs : List ℕ). AreGathered trace outer xs search.left c.arrivals_of.new.left [] arrivals) c.deref.ensures.value (c.in_ok-arrivals.ensures outer at.left.buckets) in
    all_arrivals trace search.level search.walks.reached.items search.walks.front.items at.front outer search.left c.arrivals_of.new.left arrivals g

pub returns : goal.returns
returns c =
    let trace = c.args.events.now in
    let search = c.args.search.now in
    let at = c.requires.at in
    let old = search.walks.reached.items in
    let new = c.enter_chosen.new.walks.reached.items in
    let front = search.walks.front.items in
    let left = c.arrivals_of.new.left in
    let arrivals = c.in_ok-arrivals.arrivals.items in
    let firsts = c.args.basis.now.transactions.firsts.items in
    let first = c.args.basis.now.first in
    let outer = outside trace firsts first in
    let g = subst (λ (xs : List ℕ). AreGathered trace outer xs search.left left [] arrivals) c.deref.ensures.value (c.in_ok-arrivals.ensures outer at.left.buckets) in
    let origin = origin_reached trace c.args.basis.now c.requires.basis search at in
    let e = c.in_ok-enter_chosen.ensures.entered in
    let xs = c.enter_chosen.new.walks.front.items in
    let ys = c.sort_unstable.new.self.items in
    let moved = c.sort_unstable.ensures.permutation in
    record {
      level = refl;
      swept = swept trace search.level old front at.front firsts first search.left left arrivals g origin at.left new e;
      front = sorted_front (search.level + 1) new xs ys (λ i h. Contains-permutation xs ys i moved h) (λ i h. Contains-permutation ys xs i (IsPermutation-sym xs ys moved) h) c.in_ok-enter_chosen.ensures.front;
      left = still_left trace search.level old front at.front firsts first search.left left arrivals g origin at.left new e;
    }
