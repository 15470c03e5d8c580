use Rattle.std.proofs.Common.{◌≡◌, ◌<◌, ◌∙◌, ◌∷◌, List, ℕ, [], length, take, get_or, refl, sym, ap, subst, arith}
use Rattle.std.proofs.lemmas.List.{take_all, take_more}
use Rattle.std.proofs.lemmas.Option.{unwrap_or-slice_get}
use Rattle.aero_intake.specs.Begun.{noted_at}
use Rattle.aero_intake.specs.Surveys.{MarksNames}
use Rattle.aero_intake.proofs.Surveyed.{marked_on, or_nothing}
use Rattle.aero_intake.proofs.survey.mark_all.Goals as goal

pub loop-number-init : goal.loop-number-init
loop-number-init c = (refl, λ place label at. sym (or_nothing (noted_at c.args.begun.now.flags.items place)))

pub loop-number-preserved : goal.loop-number-preserved
loop-number-preserved c =
    let n = c.loop-number.number in
    let names = c.args.names.now in
    let labels = c.args.except.now.labels in
    let old = c.args.begun.now.flags.items in
    let mid = c.loop-number.begun.flags.items in
    let new = c.mark.new.begun.flags.items in
    let within : n < length names = subst (λ m. n < m) c.len-number-end.ensures c.loop-number-test.true in
    let name : c.name_of.result.now ≡ get_or names n [] = c.name_of.ensures ∙ unwrap_or-slice_get names n [] in (
      c.mark.ensures.count ∙ c.loop-number.invariant.0,
      subst (λ ns. MarksNames labels ns old new) (sym (take_more names n [] within))
          (marked_on labels (take n names) (get_or names n []) old mid new c.loop-number.invariant.1
          (subst (λ x. MarksNames labels (x ∷ []) mid new) name c.mark.ensures.marks)),
    )

pub returns-clause-marks : goal.returns-clause-marks
returns-clause-marks c =
    subst (λ ns. MarksNames c.args.except.now.labels ns c.args.begun.now.flags.items c.loop-number.begun.flags.items)
    (take_all c.loop-number.number c.args.names.now (omega (arith, c.loop-number-test.false, c.len-number-end.ensures))) c.loop-number.invariant.1
