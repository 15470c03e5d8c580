use Rattle.std.proofs.Common.{length, refl, sym, ◌∙◌}
use Rattle.std.proofs.lemmas.Bool.{ltb-true}
use Rattle.std.proofs.lemmas.Option.{slice_get_read}
use Rattle.aero_model.proofs.Conflicting.{conflict_from, conflict_to}
use Rattle.aero_witness.proofs.conflict.conflict.Goals as goal

pub returns : goal.returns
returns c =
    let events = c.args.events.now in
    let one = c.in-Some.one.now in
    let other = c.in-Some-get.other.now in
    let first = slice_get_read events (length events) c.args.first one refl (ltb-true c.args.first (length events) (sym c.in-Some.ensures.lookup.0)) c.in-Some.ensures.lookup.1 in
    let second = slice_get_read events (length events) c.args.second other refl (ltb-true c.args.second (length events) (sym c.in-Some-get.ensures.lookup.0)) c.in-Some-get.ensures.lookup.1 in (
      (λ h. conflict_from events c.args.first c.args.second one other first second c.if-second-first.false (sym c.conflicting.ensures ∙ h)),
      λ h. c.conflicting.ensures ∙ conflict_to events c.args.first c.args.second one other first second h,
    )
