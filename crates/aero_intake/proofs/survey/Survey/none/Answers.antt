use Rattle.std.proofs.Common.{refl}
use Rattle.aero_intake.proofs.Surveyed.{nothing_surveyed}
use Rattle.aero_intake.proofs.survey.Survey.none.Goals as goal

pub returns : goal.returns
returns c = λ labels. nothing_surveyed labels _ c.none.ensures refl refl refl
