use Rattle.std.proofs.Common.{take, ◌∙◌, ap}
use Rattle.std.proofs.lemmas.List.{take_min}
use Rattle.aero_judge.proofs.opened.first_of.Goals as goal

pub returns : goal.returns
returns c = ap (λ n. take n c.args.places.now) c.min.ensures ∙ take_min 64 c.args.places.now
