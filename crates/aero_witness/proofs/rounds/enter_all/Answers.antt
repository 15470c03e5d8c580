use Rattle.std.proofs.Common.{List, take, get_or, sym, ap, subst}
use Rattle.std.proofs.lemmas.List.{take_more}
use Rattle.aero_witness.specs.declared.buckets.Arrival.{Arrival}
use Rattle.aero_witness.specs.declared.reached.Reached.{Reached}
use Rattle.aero_witness.specs.Reached.{AreEntered, IsFront}
use Rattle.aero_witness.proofs.Swept.{one_entered}
use Rattle.aero_witness.proofs.rounds.enter_all.Goals as goal

abbrev any : Arrival
any = record { enters = 0; from = 0 }

pub loop-arrival-preserved : goal.loop-arrival-preserved
loop-arrival-preserved c =
    let trace = c.args.events.now in
    let level = c.args.level in
    let old = c.args.walks.now.reached.items in
    let arrivals = c.args.arrivals.now in
    let at = c.loop-arrival.arrival-index in
    let l = c.loop-arrival-test.true in
    let arrival = get_or arrivals at any in
    let inv = c.loop-arrival.invariant in
    let new = c.enter.new.walks.reached.items in
    record {
      entered = subst (λ (xs : List Arrival). AreEntered trace level old xs new) (sym {A = List Arrival} (take_more arrivals at any l)) (one_entered trace level old (take at arrivals) arrival c.with_one_more.result c.loop-arrival.walks.reached.items new c.with_one_more.ensures (c.requires.arrivals at any l) inv.entered c.in_ok-enter.ensures.entered);
      front = subst (λ n. IsFront n new c.enter.new.walks.front.items) (ap (λ (r : Reached). r.level) c.with_one_more.ensures) c.in_ok-enter.ensures.front;
    }
