use Rattle.std.proofs.Common.{◌≤◌, length, ◌++◌, drop, ap, ◌∙◌, inl, inr, ◌⊎◌}
use Rattle.aero_clock.proofs.Merges.{merged_whole}
use Rattle.aero_clock.proofs.pairs.merged.Goals.{then-loop-i-test+else-j-others, else-loop-i-test}
use Rattle.aero_clock.proofs.pairs.merged.Goals as goal

pub returns : goal.returns
returns c =
    let ends : (length c.args.pairs.now ≤ c.loop-i.i) ⊎ (length c.args.others.now ≤ c.loop-i.j) = elim c.loop-i-test.branch [ then-loop-i-test+else-j-others w ↦ inr w.if-j-others.false | else-loop-i-test w ↦ inl w.loop-i-test.false ] in
    c.in_ok-extend_from_slice-2.ensures.items
    ∙ ap (λ xs. c.extend_from_slice.new.self.items ++ xs) c.split_at-2.ensures.back
    ∙ ap (λ xs. xs ++ drop c.loop-i.j c.args.others.now) (c.in_ok-extend_from_slice.ensures.items ∙ ap (λ xs. c.loop-i.all.items ++ xs) c.split_at.ensures.back)
    ∙ merged_whole c.loop-i.all.items c.args.pairs.now c.args.others.now c.loop-i.i c.loop-i.j c.loop-i.invariant.so_far ends
