use Rattle.std.proofs.Common.{List, Option, sym, subst}
use Rattle.std.specs.List.{All}
use Rattle.aero_witness.specs.declared.buckets.Arrival.{Arrival}
use Rattle.aero_witness.specs.declared.reached.Reached.{Reached}
use Rattle.aero_witness.specs.Chosen.{AreChosen}
use Rattle.aero_witness.specs.Reached.{IsArrival, AreEntered}
use Rattle.aero_witness.proofs.Choosing.{chosen_arrivals, all_entered}
use Rattle.aero_witness.proofs.rounds.enter_chosen.Goals as goal

pub enter_all-requires-clause-arrivals : goal.enter_all-requires-clause-arrivals
enter_all-requires-clause-arrivals c =
    let trace = c.args.events.now in
    let reached = c.args.walks.now.reached.items in
    let old = c.args.arrivals.now.items in
    let new = c.choose.new.arrivals.items in
    let chosen = subst (λ (xs : List (Option Reached)). AreChosen xs old new) c.deref.ensures.value c.choose.ensures in
    subst (λ (xs : List Arrival). All (IsArrival trace c.args.level reached) xs) (sym {A = List Arrival} c.deref-2.ensures.value) (chosen_arrivals trace c.args.level reached old new chosen c.requires.arrivals)

pub returns-clause-entered : goal.returns-clause-entered
returns-clause-entered c =
    let trace = c.args.events.now in
    let reached = c.args.walks.now.reached.items in
    let old = c.args.arrivals.now.items in
    let new = c.choose.new.arrivals.items in
    let reached' = c.enter_all.new.walks.reached.items in
    let chosen = subst (λ (xs : List (Option Reached)). AreChosen xs old new) c.deref.ensures.value c.choose.ensures in
    all_entered trace c.args.level reached old new chosen reached' (subst (λ (xs : List Arrival). AreEntered trace c.args.level reached xs reached') c.deref-2.ensures.value c.in_ok-enter_all.ensures.entered)
