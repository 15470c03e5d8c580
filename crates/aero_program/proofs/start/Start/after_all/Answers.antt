use Rattle.std.proofs.Common.{take}
use Rattle.aero_program.specs.Starts.{start_bytes}
use Rattle.aero_program.proofs.Fronts.{one_more}
use Rattle.aero_program.proofs.start.Start.after_all.Goals as goal

pub loop-byte-preserved : goal.loop-byte-preserved
loop-byte-preserved c =
    one_more 3 c.loop-byte.byte-index (start_bytes c.loop-byte.start) (start_bytes c.args.self) (take c.min.result c.args.given.now)
    (start_bytes c.after-start.result) c.loop-byte.invariant c.loop-byte-test.true c.after-start.ensures
