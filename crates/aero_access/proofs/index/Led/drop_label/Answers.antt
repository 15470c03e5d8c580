use Rattle.std.proofs.Common.{refl, ap, ◌∙◌}
use Rattle.aero_access.specs.Led.{times}
use Rattle.aero_access.proofs.Visits.{times_without}
use Rattle.aero_access.proofs.index.Led.drop_label.Goals as goal

pub returns : goal.returns
returns c = record {
  number = refl;
  threads = λ r. refl;
  labels = λ i. ap (times i) c.drop_place.ensures ∙ times_without c.args.place c.args.self.now.labels.items i;
}
