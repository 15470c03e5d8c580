use Rattle.std.proofs.Common.{◌≡◌, if◌then◌else◌, None, sym, ◌∙◌, ap}
use Rattle.std.proofs.lemmas.Option.{slice_get-get_or}
use Rattle.aero_model.specs.declared.numbered.Numbered.{Numbered}
use Rattle.aero_model.specs.declared.numbered.What.TheVariants.{Read}
use Rattle.aero_witness.specs.Kinds.{target_number, of_event, targets, outside}
use Rattle.aero_witness.proofs.Filling.{inner_is, outer_is, one_filled, same_kind}
use Rattle.aero_witness.proofs.buckets.fill.Goals as goal

abbrev any : Numbered
any = record { thread = 0; what = Read 0 }

pub loop-place-preserved : goal.loop-place-preserved
loop-place-preserved c =
    let trace = c.args.events.now in
    let firsts = c.args.basis.now.transactions.firsts.items in
    let place = c.loop-place.place in
    let bucket = c.loop-place.bucket in
    let at : targets trace bucket.kind place ≡ c.target_number-number.result = ap (of_event (target_number bucket.kind)) (slice_get-get_or trace place any c.loop-place-test.true) ∙ sym c.target_number-number.ensures in
    let t = targets trace bucket.kind in
    let first = c.args.basis.now.first in
    let number = c.target_number-number.result in
    let at_origin = c.is_origin.result in
    record {
      kind = c.in_ok-add.ensures.kind ∙ c.loop-place.invariant.kind;
      filled = same_kind trace firsts c.args.basis.now.first place bucket c.add.new.bucket c.in_ok-add.ensures.kind (one_filled t (outside trace firsts first bucket.kind) firsts first place (if at_origin then number else None) (if at_origin then None else number) bucket c.add.new.bucket c.loop-place.invariant.filled c.in_ok-add.ensures (inner_is t firsts first place number at at_origin c.is_origin.ensures) (outer_is t firsts first place number at at_origin c.is_origin.ensures));
    }
