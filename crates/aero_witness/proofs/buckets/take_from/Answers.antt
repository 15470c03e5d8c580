use Rattle.std.proofs.Common.{◌-◌, refl, arith}
use Rattle.aero_witness.proofs.Taken.{one_taken}
use Rattle.aero_witness.proofs.buckets.take_from.Goals as goal

pub loop-low-preserved : goal.loop-low-preserved
loop-low-preserved c =
    let w = c.loop-low.invariant in
    let less = c.loop-low-test.true in
    let low = c.loop-low.low in
    one_taken c.args.before.now c.args.place c.args.head low (low - 1) c.args.arrivals.now.items c.loop-low.arrivals.items c.push.new.self.items (record { enters = low - 1; from = c.args.place }) refl c.in_ok-push.ensures.items (omega arith) (omega arith) c.requires.within (c.requires.falls (low - 1)) w
