use Rattle.std.proofs.Common.{sym}
use Rattle.aero_verdict.proofs.Chunks.{last_more}
use Rattle.aero_verdict.proofs.ended.last_ends.Goals as goal

pub loop-thread-preserved : goal.loop-thread-preserved
loop-thread-preserved c =
    last_more c.args.numbering.now c.args.shape.now c.loop-thread.thread c.loop-thread.names c.push.new.self c.loop-thread.ends.items c.push_ends.new.events.items c.in-Some.name.now c.open_blocks.result
    c.loop-thread.invariant (sym c.in-Some.ensures) c.open_blocks.ensures c.in_ok-push.ensures.ok c.in_ok-push_ends.ensures
