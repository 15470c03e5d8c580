use Rattle.std.proofs.Common.{◌+◌, ◌-◌, ◌/◌, ◌<◌, arith, length}
use Rattle.aero_clock.proofs.Lists.{all_below, all_above}
use Rattle.aero_clock.proofs.pairs.search.Goals as goal

pub loop-low-preserved-then-pairs-middle : goal.loop-low-preserved-then-pairs-middle
loop-low-preserved-then-pairs-middle c =
    let within : c.loop-low.low + (c.loop-low.high - c.loop-low.low) / 2 < length c.args.pairs.now = omega (arith, c.loop-low-test.true, c.loop-low.invariant.within) in
    record {
      ordered = omega (arith, c.loop-low-test.true);
      within = c.loop-low.invariant.within;
      below = λ i p less. all_below c.args.pairs.now c.args.t (c.loop-low.low + (c.loop-low.high - c.loop-low.low) / 2) c.requires within c.if-pairs-middle.true i p (omega (arith, less));
      above = c.loop-low.invariant.above;
    }

pub loop-low-preserved : goal.loop-low-preserved
loop-low-preserved c =
    let within : c.loop-low.low + (c.loop-low.high - c.loop-low.low) / 2 < length c.args.pairs.now = omega (arith, c.loop-low-test.true, c.loop-low.invariant.within) in
    record {
      ordered = omega arith;
      within = omega (arith, within);
      below = c.loop-low.invariant.below;
      above = all_above c.args.pairs.now c.args.t (c.loop-low.low + (c.loop-low.high - c.loop-low.low) / 2) c.requires within c.if-pairs-middle.false;
    }
