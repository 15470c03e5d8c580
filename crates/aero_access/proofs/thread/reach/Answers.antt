use Rattle.std.proofs.Common.{arith}
use Rattle.aero_access.proofs.ThreadLists.{same_threads_then, same_threads_push}
use Rattle.aero_access.proofs.thread.reach.Goals as goal

pub loop-threads-preserved : goal.loop-threads-preserved
loop-threads-preserved c =
    let e = c.new-thread.ensures in
    record {
      same =
          rw c.in_ok-push.ensures.items
          (same_threads_then c.args.threads.now.items c.loop-threads.threads.items _ c.loop-threads.invariant.same
          (same_threads_push c.loop-threads.threads.items c.new-thread.result e.clock e.begin e.begins e.acted));
      grown = omega (arith, c.in_ok-push.ensures.len, c.loop-threads-test.true, c.len.ensures, c.loop-threads.invariant.grown);
      more = omega (arith, c.in_ok-push.ensures.len, c.loop-threads.invariant.more);
      few = omega (arith, c.in_ok-push.ensures.len, c.loop-threads-test.true, c.len.ensures, c.ranges.t);
    }
