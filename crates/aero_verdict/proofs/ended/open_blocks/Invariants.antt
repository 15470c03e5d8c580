use Rattle.std.proofs.Common.{◌≡◌, List, map, take}
use Rattle.aero_model.specs.Ended.{open_of}
use Rattle.aero_model.specs.Exempt.{Listed, marked_trace}
use Rattle.aero_model.specs.Named.{Named}
use Rattle.aero_model.specs.Numbering.{tables_of}
use Rattle.aero_shape.specs.Standing.{StandsFor}
use Rattle.aero_verdict.specs.Limited.{names_in}
use Rattle.aero_verdict.proofs.ended.open_blocks.Given as goal

abbrev pub invariant-loop-n : goal.invariant-loop-n
invariant-loop-n l = (labels : Listed) (front : List Named) → names_in l.numbering ≡ tables_of front → StandsFor l.shape (marked_trace labels front) → l.counts.items ≡ map (open_of front) (take l.n l.threads)
