use Rattle.std.proofs.Common.{◌∙◌, sym}
use Rattle.aero_intake.proofs.Surveyed.{has_place}
use Rattle.aero_intake.proofs.survey.has_begun.Goals as goal

pub returns-in-None : goal.returns-in-None
returns-in-None c = absurd (has_place c.args.except.now.labels c.args.label.now c.requires (sym c.place_of.ensures ∙ c.in-None.is))
