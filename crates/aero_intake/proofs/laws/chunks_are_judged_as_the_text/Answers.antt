use Rattle.aero_intake.proofs.Judged.{judged_alike}
use Rattle.aero_intake.proofs.laws.chunks_are_judged_as_the_text.Goals as goal

pub returns : goal.returns
returns c = judged_alike
