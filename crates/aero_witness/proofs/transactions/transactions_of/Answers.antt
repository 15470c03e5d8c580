use Rattle.std.proofs.Common.{◌+◌, ℕ, List, get_or, sym, subst, arith}
use Rattle.std.proofs.lemmas.Option.{slice_get-get_or}
use Rattle.aero_model.specs.declared.numbered.Numbered.{Numbered}
use Rattle.aero_model.specs.declared.numbered.What.TheVariants.{Read}
use Rattle.aero_witness.proofs.Nests.{Known, no_deeper, known_next}
use Rattle.aero_witness.proofs.transactions.transactions_of.Goals as goal

pub step-requires : goal.step-requires
step-requires c = record { room = omega arith; depths = no_deeper c.args.events.now c.loop-place.place c.loop-place.nests.items c.loop-place.invariant.nests }

pub loop-place-preserved : goal.loop-place-preserved
loop-place-preserved c =
    let events = c.args.events.now in
    let place = c.loop-place.place in
    let none : Numbered = record { thread = 0; what = Read 0 } in
    let next = known_next events place c.loop-place.firsts.items c.loop-place.nests.items c.step.new.nests.items (get_or events place none) c.in_ok-step.field-0 (slice_get-get_or events place none c.loop-place-test.true) c.loop-place.invariant c.in_ok-step.ensures.first c.in_ok-step.ensures.nests in
    subst (λ (all : List ℕ). Known events (place + 1) all c.step.new.nests.items) (sym {A = List ℕ} c.in_ok-push.ensures.items) next
