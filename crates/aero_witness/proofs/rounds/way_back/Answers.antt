use Rattle.std.proofs.Common.{◌≡◌, ◌<◌, ◌+◌, ◌≤◌, ℕ, List, length, true, Option, sym, subst, arith}
use Rattle.std.specs.List.{All}
use Rattle.std.specs.Prelude.{Contains}
use Rattle.aero_witness.specs.declared.kinds.Kind.{Kind}
use Rattle.aero_witness.specs.Kinds.{sources}
use Rattle.aero_witness.specs.Buckets.{head_of}
use Rattle.aero_witness.specs.Left.{bucket_of}
use Rattle.aero_witness.specs.declared.reached.Reached.{Reached}
use Rattle.aero_witness.specs.Reached.{is_noted}
use Rattle.aero_witness.proofs.Leading.{origin_behind}
use Rattle.aero_witness.proofs.Advancing.{front_within, no_way_back_by}
use Rattle.aero_witness.proofs.rounds.way_back.Goals as goal
use Rattle.aero_witness.proofs.rounds.way_back.Goals.{then-search-eq0-via-then-search-eq0, then-search-eq0-via-else-search-eq0+then-not-leads_back}

pub leads_back-requires-clause-within : goal.leads_back-requires-clause-within
leads_back-requires-clause-within c =
    let search = c.args.search.now in
    let at = c.requires.at in
    subst (λ (xs : List ℕ). All (λ i. i < length c.args.events.now) xs) (sym {A = List ℕ} c.deref.ensures.value) (front_within c.args.events.now search.level search.walks.reached.items search.walks.front.items at.front at.levels.each)

pub returns-then-search-eq0 : goal.returns-then-search-eq0
returns-then-search-eq0 c pos =
    let search = c.args.search.now in
    let at = c.requires.at in
    elim c.then-search-eq0.branch [
      | then-search-eq0-via-then-search-eq0 w ↦ (let z = w.if-search-eq0.true in absurd (omega arith))
      | then-search-eq0-via-else-search-eq0+then-not-leads_back w ↦
          no_way_back_by c.args.events.now search.level search.walks.reached.items search.walks.front.items at.front c.args.basis.now.transactions.firsts.items c.args.basis.now.first search.left at.left.origins
          (subst (λ (xs : List ℕ). (i : ℕ) (k : Kind) → Contains xs i → head_of (bucket_of search.left k).origins.items (sources c.args.events.now k i) ≤ i + 1) w.deref.ensures.value (w.leads_back.ensures.none w.if-not-leads_back.true))
    ]

pub find_way_back-requires-clause-some : goal.find_way_back-requires-clause-some
find_way_back-requires-clause-some c no_way_back =
    let trace = c.args.events.now in
    let search = c.args.search.now in
    let at = c.requires.at in
    let level = search.level in
    let some = c.leads_back.ensures.some c.if-not-leads_back.false in
    let i = some.0 in
    let in_front = subst (λ (xs : List ℕ). Contains xs i) c.deref.ensures.value some.2 in
    let noted = subst (λ (xs : List (Option Reached)). is_noted xs level i ≡ true) (sym {A = List (Option Reached)} c.deref-2.ensures.value) (at.front.noted i in_front) in
    let origin = origin_behind trace c.args.basis.now.transactions.firsts.items c.args.basis.now.first (is_noted c.deref-2.result.now level) i noted search.left at.left.origins some.1 some.3 in
    no_way_back origin.0 origin.1 origin.2
