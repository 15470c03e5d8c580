use Rattle.std.proofs.Common.{◌∙◌, sym}
use Rattle.aero_intake.proofs.Surveyed.{none_marked, one_marked}
use Rattle.aero_intake.proofs.survey.mark.Goals as goal

pub returns-in-Some-clause-marks : goal.returns-in-Some-clause-marks
returns-in-Some-clause-marks c =
    one_marked c.args.except.now.labels c.args.name.now c.in-Some.place c.args.begun.now.flags.items (sym c.place_of.ensures ∙ c.in-Some.is) c.requires
