use Rattle.std.proofs.Common.{◌≡◌, ◌<◌, ◌+◌, ℕ, length, get_or, ◌∙◌, arith}
use Rattle.aero_order.specs.Starts.{from_count}
use Rattle.aero_order.proofs.Starts.{sum_below, sum_most}
use Rattle.aero_order.proofs.targets.Targets.new.Goals as goal

pub add_up-starts-requires : goal.add_up-starts-requires
add_up-starts-requires c =
    let edges = c.args.edges.now in
    let counts = c.in_ok-count_from.field-0.items in
    let are : (u : ℕ) → u < length counts → get_or counts u 0 ≡ from_count edges u = λ u l. c.in_ok-count_from.ensures.counts u (omega (arith, l, c.in_ok-count_from.ensures.len, c.in_ok-count_from.field-0.ok)) in
    omega (arith, sum_most edges counts are, c.well_formed)

pub fill-requires-clause-ends : goal.fill-requires-clause-ends
fill-requires-clause-ends c = λ u l.
    let edges = c.args.edges.now in
    let counts = c.in_ok-count_from.field-0.items in
    let are : (w : ℕ) → w < length counts → get_or counts w 0 ≡ from_count edges w = λ w m. c.in_ok-count_from.ensures.counts w (omega (arith, m, c.in_ok-count_from.ensures.len, c.in_ok-count_from.field-0.ok)) in
    c.add_up-starts.ensures.sums u (omega (arith, l, c.add_up-starts.ensures.len)) ∙ sum_below edges counts are (u + 1) (omega (arith, l, c.add_up-starts.ensures.len, c.in_ok-count_from.field-0.ok))
