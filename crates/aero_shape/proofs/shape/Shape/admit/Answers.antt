-- A usual access is told for any list that the tables stand for.
use Rattle.aero_shape.proofs.shape.Shape.admit.Goals as goal

pub returns-in-Some-clause-told : goal.returns-in-Some-clause-told
returns-in-Some-clause-told c h s = c.in-Some.ensures.told h c.args.exempt s
