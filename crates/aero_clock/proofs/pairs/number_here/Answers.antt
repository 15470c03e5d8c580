use Rattle.std.proofs.Common.{sym}
use Rattle.aero_clock.proofs.Lists.{place_holds, place_differs, place_past}
use Rattle.aero_clock.proofs.pairs.number_here.Goals as goal

pub returns-then-thread-t : goal.returns-then-thread-t
returns-then-thread-t c = place_holds c.args.pairs.now c.args.t c.args.at c.requires.rising c.if-at-pairs.true c.if-thread-t.true

pub returns-else-thread-t : goal.returns-else-thread-t
returns-else-thread-t c = sym (place_differs c.args.pairs.now c.args.t c.args.at c.requires.rising c.requires.place c.if-at-pairs.true c.if-thread-t.false)

pub returns-else-at-pairs : goal.returns-else-at-pairs
returns-else-at-pairs c = sym (place_past c.args.pairs.now c.args.t c.args.at c.requires.place c.if-at-pairs.false)
