use Rattle.std.proofs.Common.{arith}
use Rattle.aero_access.proofs.Visits.{slots_count}
use Rattle.aero_access.proofs.index.Led.len.Goals as goal

pub returns : goal.returns
returns c = λ threads. omega (arith, c.len.ensures, slots_count c.args.self.now c.pairs.result.now threads c.pairs.ensures)
