use Rattle.std.proofs.Common.{◌≤◌, ◌+◌, ◌-◌, length, arith, refl, ◌∙◌, drop}
use Rattle.std.proofs.lemmas.List.{length-drop}
use Rattle.aero_lines.proofs.Bytewise.{IsScanned-more, IsScanned-long, runs_over-few}
use Rattle.aero_lines.proofs.Capped.{cut_at, has_too_long-is}
use Rattle.aero_lines.proofs.scan.bytes_to_too_long.Goals as goal

pub returns-in-None : goal.returns-in-None
returns-in-None c =
    let fits : c.loop-before.start + (4096 - c.loop-before.before) + 1 ≤ length c.args.piece.now = omega arith in
    let cut = cut_at _ _ _ c.requires (IsScanned-long _ _ _ _ _ c.loop-before.invariant refl fits c.in-None.ensures) in
    (fits, cut.0, cut.1)

pub loop-before-preserved : goal.loop-before-preserved
loop-before-preserved c =
    IsScanned-more _ _ _ _ _ _ c.loop-before.invariant refl (omega arith) c.in-Some.ensures.0.high c.in-Some.ensures.1

pub returns : goal.returns
returns c =
    has_too_long-is _ _ c.requires
    ∙ (c.loop-before.invariant.long ∙ runs_over-few _ (drop c.loop-before.start c.args.piece.now) (omega (arith, length-drop c.loop-before.start c.args.piece.now)))
