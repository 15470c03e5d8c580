use Rattle.std.proofs.Common.{arith, ◌∙◌}
use Rattle.aero_report.proofs.Written.{taken_within, front_appends, same_faults}
use Rattle.aero_report.proofs.output.put.Goals as goal

pub loop-written-preserved : goal.loop-written-preserved
loop-written-preserved g c =
    let text = c.args.text.now in
    let written = c.loop-written.written in
    record {
      within = rw c.unwrap_or-taken.ensures (taken_within c.write.result text written c.loop-written.invariant.within c.write.ensures.bound);
      bytes = rw c.unwrap_or-taken.ensures (front_appends c.write.result _ _ _ text written c.loop-written.invariant.bytes c.write.ensures.bytes);
      faults = same_faults c.write.result _ _ _ (rw (← c.unwrap_or-taken.ensures) (omega arith)) c.write.ensures.faults ∙ c.loop-written.invariant.faults;
      ends = c.write.ensures.ends ∙ c.loop-written.invariant.ends;
    }
