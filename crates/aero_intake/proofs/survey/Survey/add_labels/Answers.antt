use Rattle.std.proofs.Common.{◌∙◌, length, sym, ap, subst}
use Rattle.aero_intake.specs.Begun.{begins, begins_in}
use Rattle.aero_intake.specs.Surveys.{HasFlags}
use Rattle.aero_intake.proofs.Begins.{table_begins}
use Rattle.aero_intake.proofs.Surveyed.{all_noted, labels_marked}
use Rattle.aero_intake.proofs.survey.Survey.add_labels.Goals as goal

pub returns-then-has_all-clause-noted : goal.returns-then-has_all-clause-noted
returns-then-has_all-clause-noted c = λ parts is.
    all_noted c.args.except.now.labels parts c.args.part.now c.args.self.now is (sym (c.has_all.ensures (begins_in parts) is.first) ∙ c.if-has_all.true)

pub mark_all-requires : goal.mark_all-requires
mark_all-requires c = c.in_ok-make_room.ensures.room ∙ ap length c.labels.ensures

pub returns-clause-noted : goal.returns-clause-noted
returns-clause-noted c = λ parts is.
    let labels = c.args.except.now.labels in
    let part = c.part.inside in
    labels_marked labels part.labels parts c.args.part.now c.args.self.now _ c.make_room.new.self.flags.items is
    (c.make_room.ensures.same (subst (λ n. HasFlags n c.args.self.now.begun.flags.items) (sym (ap length c.labels.ensures)) is.room)) c.mark_all.ensures.marks
    (λ label.
    table_begins (record { threads = part.threads; variables = part.variables; locks = part.locks }) part.labels part.events.items part.lines part.fault c.part.invariant label
    ∙ ap (begins label) c.part.view_is)
    (c.mark_all.ensures.count ∙ (c.in_ok-make_room.ensures.room ∙ ap length c.labels.ensures)) c.first_without-self.ensures
