use Rattle.std.proofs.Common.{refl, arith}
use Rattle.std.proofs.lemmas.Bool.{both_ways}
use Rattle.aero_names.proofs.Searches.{left_at_first, left_later, none_listed}
use Rattle.aero_names.proofs.index.find.Goals as goal

pub loop-next-init : goal.loop-next-init
loop-next-init c = left_at_first _ _ _ _ _ _ _ c.requires.indexed c.requires.marked c.next-next.ensures

pub loop-next-preserved : goal.loop-next-preserved
loop-next-preserved c =
    left_later _ _ _ _ _ _ _ _ c.requires.indexed c.loop-next.invariant (omega (arith, c.loop-next-test.true))
    (λ at. both_ways _ c.if-is_named.false (c.is_named.ensures.1 at)) refl

pub returns-clause-missed : goal.returns-clause-missed
returns-clause-missed c =
    none_listed c.args.names.now c.args.name.now (λ n at. c.loop-next.invariant.passed n (omega (arith, c.loop-next-test.false)) at)
