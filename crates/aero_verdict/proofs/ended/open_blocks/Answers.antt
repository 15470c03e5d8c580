use Rattle.std.proofs.Common.{◌++◌, ◌∷◌, [], map, take, ◌<◌, sym, ◌∙◌, ap, ap₂, subst, add-one, ◌≤◌}
use Rattle.std.proofs.lemmas.List.{take_all}
use Rattle.aero_model.specs.Ended.{open_of}
use Rattle.aero_verdict.proofs.Chunks.{told_more}
use Rattle.aero_verdict.proofs.ended.open_blocks.Goals as goal

pub loop-n-preserved : goal.loop-n-preserved
loop-n-preserved c = λ labels front names stands.
    c.in_ok-push.ensures.items
    ∙ ap₂ (λ ns n. ns ++ n ∷ []) (c.loop-n.invariant labels front names stands) (c.open_at.ensures labels front names stands)
    ∙ sym (told_more (open_of front) c.args.threads.now c.loop-n.n (subst (λ n. c.loop-n.n < n) c.len-n-end.ensures c.loop-n-test.true))
    ∙ ap (λ n. map (open_of front) (take n c.args.threads.now)) (sym (add-one c.loop-n.n))

pub returns : goal.returns
returns c = λ labels front names stands.
    c.loop-n.invariant labels front names stands
    ∙ ap (map (open_of front)) (take_all c.loop-n.n c.args.threads.now (subst (λ n. n ≤ c.loop-n.n) c.len-n-end.ensures c.loop-n-test.false))
