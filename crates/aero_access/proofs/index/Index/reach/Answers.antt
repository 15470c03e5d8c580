use Rattle.std.specs.Prelude.{slice_get}
use Rattle.aero_access.proofs.Visits.{same_pushed, same_then}
use Rattle.aero_access.proofs.index.Index.reach.Goals as goal

pub loop-self-preserved : goal.loop-self-preserved
loop-self-preserved c = λ v.
    let e = c.new-led.ensures in
    rw c.in_ok-push.ensures.items
    (same_then (slice_get c.args.self.now.blocks.items v) (slice_get c.loop-self.self.blocks.items v) _ (c.loop-self.invariant v)
    (same_pushed c.loop-self.self.blocks.items c.new-led.result v e.number e.threads e.labels))
