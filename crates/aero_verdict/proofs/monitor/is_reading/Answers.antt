use Rattle.std.proofs.Common.{subst}
use Rattle.aero_grammar.specs.Reading.{IsReading}
use Rattle.aero_verdict.proofs.monitor.is_reading.Goals as goal

pub returns : goal.returns
returns c = subst IsReading c.part.view_is c.part.invariant.reading
