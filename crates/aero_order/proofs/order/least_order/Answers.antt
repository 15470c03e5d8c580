use Rattle.std.proofs.Common.{◌≡◌, ◌<◌, ◌∷◌, ◌++◌, [], ℕ, length, subst, sym, arith}
use Rattle.std.specs.Prelude.{All}
use Rattle.std.specs.Vec.{with_items}
use Rattle.std.proofs.lemmas.List.{with_items_is}
use Rattle.std.proofs.lemmas.List.Elements.{All-weaker}
use Rattle.aero_order.specs.Held.{held}
use Rattle.aero_order.specs.TargetWords.{targets_of}
use Rattle.aero_order.specs.Waiting.{times, edge_count, GivesWay}
use Rattle.aero_order.proofs.Steps.{Between, between_next, next, room, order_made, targets_within}
use Rattle.aero_order.proofs.order.least_order.Goals as goal

pub of-requires : goal.of-requires
of-requires c =
    let least = next c.args.count c.args.edges.now c.loop-u.order.items c.loop-u.waiting.items (held c.loop-u.free) c.loop-u.invariant c.in-Some.u (held c.take_least.new.self) c.in-Some.ensures.some c.in-Some.ensures.least in
    omega (arith, least.free.within, c.in_ok-targets.ensures.count)

pub release_all-requires : goal.release_all-requires
release_all-requires c =
    let count = c.args.count in
    let edges = c.args.edges.now in
    let u = c.in-Some.u in
    let targets = targets_of c.in_ok-targets.targets u in
    let least = next count edges c.loop-u.order.items c.loop-u.waiting.items (held c.loop-u.free) c.loop-u.invariant u (held c.take_least.new.self) c.in-Some.ensures.some c.in-Some.ensures.least in
    let ends = All-weaker (λ e. (e.0 < count) × (e.1 < count)) (λ e. e.1 < count) (λ e b. b.1) edges c.requires in
    let within : All (λ v. v < count) targets = targets_within count u edges targets ends (λ v. c.in_ok-targets.ensures.each u v least.free.within) in
    let len : length c.deref_mut.result.now ≡ count = omega (arith, c.deref_mut.ensures.len, c.loop-u.invariant.len, c.loop-u.waiting.ok) in
    subst (λ n. All (λ v. v < n) c.of.result.now) (sym len) (subst (All (λ v. v < count)) (sym c.of.ensures) within)

pub loop-u-smaller : goal.loop-u-smaller
loop-u-smaller c =
    let less = room c.args.count c.args.edges.now c.loop-u.order.items c.loop-u.waiting.items (held c.loop-u.free) c.loop-u.invariant c.in-Some.u (held c.take_least.new.self) c.in-Some.ensures.some c.in-Some.ensures.least in
    omega (arith, less, c.in_ok-push.ensures.len, c.loop-u.order.ok)

pub loop-u-preserved : goal.loop-u-preserved
loop-u-preserved c =
    let count = c.args.count in
    let edges = c.args.edges.now in
    let order = c.loop-u.order.items in
    let items = c.loop-u.waiting.items in
    let fewer = c.release_all.new.waiting in
    let u = c.in-Some.u in
    let left = held c.take_least.new.self in
    let more = held c.release_all.new.free in
    let least = next count edges order items (held c.loop-u.free) c.loop-u.invariant u left c.in-Some.ensures.some c.in-Some.ensures.least in
    let targets = targets_of c.in_ok-targets.targets u in
    let are : (v : ℕ) → times v targets ≡ edge_count edges u v = λ v. c.in_ok-targets.ensures.each u v least.free.within in
    let len : length fewer ≡ length items = omega (arith, c.release_all.auto.waiting, c.deref_mut.ensures.value, c.deref_mut.ensures.len, c.loop-u.waiting.ok) in
    let gives : GivesWay targets items left fewer more =
    subst (λ ts. GivesWay ts items left fewer more) c.of.ensures (subst (λ ws. GivesWay c.of.result.now ws left fewer more) c.deref_mut.ensures.value c.in_ok-release_all.ensures) in
    let after : Between count edges (order ++ u ∷ []) fewer more =
    between_next count edges order items (held c.loop-u.free) c.loop-u.invariant u left c.in-Some.ensures.some c.in-Some.ensures.least targets fewer more are len gives in
    let written = with_items_is c.loop-u.waiting fewer (omega (arith, len, c.loop-u.waiting.ok)) in
    subst (λ o. Between count edges o (with_items c.loop-u.waiting fewer).items more) (sym c.in_ok-push.ensures.items)
    (subst (λ ws. Between count edges (order ++ u ∷ []) ws more) (sym written) after)

pub returns : goal.returns
returns c = order_made c.args.count c.args.edges.now c.loop-u.order.items c.loop-u.waiting.items (held c.loop-u.free) c.loop-u.invariant c.in_default.ensures.none
