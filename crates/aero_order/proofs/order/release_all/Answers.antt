use Rattle.std.proofs.Common.{get_or}
use Rattle.std.proofs.lemmas.List.{get_or_default}
use Rattle.aero_order.specs.Held.{held}
use Rattle.aero_order.proofs.Giving.{gives_more}
use Rattle.aero_order.proofs.order.release_all.Goals as goal

pub loop-v-preserved : goal.loop-v-preserved
loop-v-preserved c =
    let targets = c.args.targets.now in
    let i = c.loop-v.v-index in
    let t = get_or targets i 0 in
    let l = c.loop-v-test.true in
    gives_more targets i t c.args.waiting.now (held c.args.free.now) c.loop-v.waiting (held c.loop-v.free) c.release.new.waiting (held c.release.new.free) l
    (get_or_default targets i 0 t l) (c.requires i 0 l) c.release.ensures.others c.release.ensures.less c.in_ok-release.ensures.holds
    c.loop-v.invariant
