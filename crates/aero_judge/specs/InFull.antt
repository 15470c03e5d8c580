-- For which events an `InFull` stands, and what it keeps of those that it was given: what its record and its transactions do.
use Rattle.std.specs.Prelude.{List}
use Rattle.aero_model.specs.declared.numbered.Numbered.{Numbered}
use Rattle.aero_engine.specs.Given.{Given}
use Rattle.aero_order.specs.Standing as orders
use Rattle.aero_judge.specs.declared.full.InFull.{InFull}
use Rattle.aero_verdict.specs.InOrder.{KeepsFirsts}
use Rattle.aero_judge.specs.Recorded.{HasRecorded, StandsForLeads}

abbrev pub StandsForFull : InFull → List Numbered → Type 0
StandsForFull full trace = StandsForLeads full.recorder trace × orders.StandsFor full.transactions trace

abbrev pub KeepsInFull : InFull → List Given → Type 0
KeepsInFull full given = HasRecorded full.recorder given × KeepsFirsts full.transactions given
