use Rattle.std.proofs.Common.{◌≡◌}
use Rattle.std.specs.Prelude.{true, false}
use Rattle.aero_leads.specs.Listed.{followers}
use Rattle.aero_leads.proofs.Seeing.{so_first, kept_first, whole_first, so_next, kept_next, own_next, listed_next, whole_next, still_next, handed_next}
use Rattle.aero_leads.proofs.seen.unsee_all.Goals as goal

pub loop-i-init : goal.loop-i-init
loop-i-init c =
    record {
      so = so_first c.args.seen.now c.unsee.new.seen c.args.w c.args.later.now c.unsee.ensures.so c.unsee.ensures.kept c.unsee.ensures.whole c.unsee.ensures.others c.unsee.ensures.whole_others;
      kept = kept_first c.args.seen.now c.unsee.new.seen c.args.w c.args.later.now c.unsee.ensures.so c.unsee.ensures.kept c.unsee.ensures.whole c.unsee.ensures.others c.unsee.ensures.whole_others;
      own = c.unsee.ensures.gone;
      gone = λ o h. let z : false ≡ true = h in cc;
      whole = whole_first c.args.seen.now c.unsee.new.seen c.args.w c.args.later.now c.unsee.ensures.so c.unsee.ensures.kept c.unsee.ensures.whole c.unsee.ensures.others c.unsee.ensures.whole_others;
      still = λ o ne _. c.unsee.ensures.others o c.args.w ne;
      handed = λ o v _ h. let z : false ≡ true = h in cc;
    }

pub loop-i-preserved : goal.loop-i-preserved
loop-i-preserved c =
    record {
      so = so_next c.args.seen.now c.loop-i.seen c.unsee_next.new.seen (followers c.args.led.now c.args.w) c.loop-i.i c.follower.result c.args.w c.args.later.now c.follower.ensures
          c.unsee_next.ensures.so c.unsee_next.ensures.kept c.unsee_next.ensures.gone c.unsee_next.ensures.whole c.unsee_next.ensures.handed c.unsee_next.ensures.others c.unsee_next.ensures.whole_others
          c.loop-i.invariant.so;
      kept = kept_next c.args.seen.now c.loop-i.seen c.unsee_next.new.seen (followers c.args.led.now c.args.w) c.loop-i.i c.follower.result c.args.w c.args.later.now c.follower.ensures
          c.unsee_next.ensures.so c.unsee_next.ensures.kept c.unsee_next.ensures.gone c.unsee_next.ensures.whole c.unsee_next.ensures.handed c.unsee_next.ensures.others c.unsee_next.ensures.whole_others
          c.loop-i.invariant.kept;
      own = own_next c.args.seen.now c.loop-i.seen c.unsee_next.new.seen (followers c.args.led.now c.args.w) c.loop-i.i c.follower.result c.args.w c.args.later.now c.follower.ensures
          c.unsee_next.ensures.so c.unsee_next.ensures.kept c.unsee_next.ensures.gone c.unsee_next.ensures.whole c.unsee_next.ensures.handed c.unsee_next.ensures.others c.unsee_next.ensures.whole_others
          c.loop-i.invariant.own;
      gone = listed_next c.args.seen.now c.loop-i.seen c.unsee_next.new.seen (followers c.args.led.now c.args.w) c.loop-i.i c.follower.result c.args.w c.args.later.now c.follower.ensures
          c.unsee_next.ensures.so c.unsee_next.ensures.kept c.unsee_next.ensures.gone c.unsee_next.ensures.whole c.unsee_next.ensures.handed c.unsee_next.ensures.others c.unsee_next.ensures.whole_others
          c.loop-i.invariant.gone;
      whole = whole_next c.args.seen.now c.loop-i.seen c.unsee_next.new.seen (followers c.args.led.now c.args.w) c.loop-i.i c.follower.result c.args.w c.args.later.now c.follower.ensures
          c.unsee_next.ensures.so c.unsee_next.ensures.kept c.unsee_next.ensures.gone c.unsee_next.ensures.whole c.unsee_next.ensures.handed c.unsee_next.ensures.others c.unsee_next.ensures.whole_others
          c.loop-i.invariant.whole;
      still = still_next c.args.seen.now c.loop-i.seen c.unsee_next.new.seen (followers c.args.led.now c.args.w) c.loop-i.i c.follower.result c.args.w c.args.later.now c.follower.ensures
          c.unsee_next.ensures.so c.unsee_next.ensures.kept c.unsee_next.ensures.gone c.unsee_next.ensures.whole c.unsee_next.ensures.handed c.unsee_next.ensures.others c.unsee_next.ensures.whole_others
          c.loop-i.invariant.still;
      handed = handed_next c.args.seen.now c.loop-i.seen c.unsee_next.new.seen (followers c.args.led.now c.args.w) c.loop-i.i c.follower.result c.args.w c.args.later.now c.follower.ensures
          c.unsee_next.ensures.so c.unsee_next.ensures.kept c.unsee_next.ensures.gone c.unsee_next.ensures.whole c.unsee_next.ensures.handed c.unsee_next.ensures.others c.unsee_next.ensures.whole_others
          c.loop-i.invariant.still c.loop-i.invariant.handed;
    }
