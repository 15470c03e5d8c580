use Rattle.std.proofs.Common.{ℕ, ◌+◌, ◌≡◌, [], slice_index, sym, subst, ◌∙◌}
use Rattle.aero_order.specs.Held.{held}
use Rattle.aero_order.specs.Waiting.{one_if, is_due}
use Rattle.aero_order.proofs.Firsts.{due_none, due_more, due_same}
use Rattle.aero_order.proofs.order.first_free.Goals as goal
use Rattle.aero_order.proofs.order.first_free.Goals.{then-waiting-v-eq0+in_ok-hold, else-waiting-v-eq0}

pub loop-v-init : goal.loop-v-init
loop-v-init c = λ w. c.new-free.ensures w ∙ sym (due_none w (slice_index c.args.waiting.now w))

pub loop-v-preserved : goal.loop-v-preserved
loop-v-preserved c = elim c.if-waiting-v-eq0.branch [
  | then-waiting-v-eq0+in_ok-hold w ↦
      subst (λ free. (u : ℕ) → held free u ≡ one_if (is_due (c.loop-v.v + 1) [] u (slice_index c.args.waiting.now u))) (sym w.free-is)
      (due_more c.loop-v.v (slice_index c.args.waiting.now) (held c.loop-v.free) (held w.hold.new.self) c.loop-v.invariant w.if-waiting-v-eq0.true w.in_ok-hold.ensures)
  | else-waiting-v-eq0 w ↦
      subst (λ free. (u : ℕ) → held free u ≡ one_if (is_due (c.loop-v.v + 1) [] u (slice_index c.args.waiting.now u))) (sym w.free-is)
      (due_same c.loop-v.v (slice_index c.args.waiting.now) (held c.loop-v.free) (held c.loop-v.free) c.loop-v.invariant w.if-waiting-v-eq0.false)
]
