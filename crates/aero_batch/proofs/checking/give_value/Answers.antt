use Rattle.std.proofs.Common.{◌≡◌, ◌≤◌, ◌<◌, false, length, sym, ◌∙◌, ap, arith}
use Rattle.std.proofs.lemmas.Option.{slice_get_read}
use Rattle.std.proofs.lemmas.Result.{on_ok_weaker}
use Rattle.aero_intake.proofs.Tracked.{set_changed, changed_past}
use Rattle.aero_intake.specs.PlanTerms.{most_kept}
use Rattle.aero_intake.specs.Tracks.{certain_of, with_value}
use Rattle.aero_batch.proofs.checking.give_value.Goals as goal

pub returns-then-trace-count : goal.returns-then-trace-count
returns-then-trace-count c =
    let v = c.args.tracks.now in
    let past : length v.items ≤ c.args.trace = omega (arith, v.ok.0, c.if-trace-count.true, c.len-count.ensures) in (
      false,
      sym (changed_past v.items c.args.trace
          (λ t. with_value (most_kept c.args.plan.now.keeping c.args.trace (length v.items)) false t c.args.value) past),
    )

pub returns : goal.returns
returns c =
    let v = c.args.tracks.now in
    let within : c.args.trace < v.len = omega (arith, c.if-trace-count.false, c.len-count.ensures) in
    let at = slice_get_read v.items v.len c.args.trace c.index_mut.result.now v.ok.0 within c.index_mut.ensures.value in
    let keeping = c.args.plan.now.keeping in
    let count : c.len-count.result ≡ length v.items = omega (arith, v.ok.0, c.len-count.ensures) in
    let most : c.most-most.result ≡ most_kept keeping c.args.trace (length v.items) = c.most-most.ensures ∙ ap (most_kept keeping c.args.trace) count in
    let certain = certain_of c.take_value.new.track in
    on_ok_weaker c.take_value.result (λ is. (
      certain,
      set_changed v.items c.args.trace c.index_mut.result.now c.take_value.new.track
          (λ t. with_value (most_kept keeping c.args.trace (length v.items)) certain t c.args.value) at
          (is ∙ ap (λ n. with_value n certain c.index_mut.result.now c.args.value) most),
    )) c.take_value.ensures
