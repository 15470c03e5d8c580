use Rattle.std.proofs.Common.{Some, refl, subst, sym}
use Rattle.aero_telling.specs.declared.cause.Cause.TheVariants.{Memory}
use Rattle.aero_telling.specs.Telling.{SumsUp}
use Rattle.aero_program.proofs.Unused.{takes_nothing}
use Rattle.aero_program.proofs.execute.refused_after.Goals as goal

pub returns-in-None-clause-summed : goal.returns-in-None-clause-summed
returns-in-None-clause-summed c = λ text at. subst (λ o. SumsUp text o at at (Some Memory)) (sym c.in-None.is) (takes_nothing at)

pub returns-in-Some-clause-summed : goal.returns-in-Some-clause-summed
returns-in-Some-clause-summed c = λ text at. subst (λ o. SumsUp text o at at (Some c.in-Some.why)) (sym c.in-Some.is) (refl, refl)
