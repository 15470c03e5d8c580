use Rattle.std.proofs.Common.{◌≡◌, ◌<◌, ◌^◌, length, sym, ◌∙◌, ap, subst}
use Rattle.std.specs.Prelude.{slice_get, All}
use Rattle.std.specs.List.{AllZip}
use Rattle.aero_model.specs.Blocks.{transaction}
use Rattle.aero_model.specs.Graph.{BeginsCycle}
use Rattle.aero_witness.specs.Parts.{AreFirstsTo, AreOf}
use Rattle.aero_witness.specs.Telling.{IsShortest}
use Rattle.aero_model.specs.Named.{Named}
use Rattle.aero_verdict.specs.Explained.{IsExplained}
use Rattle.aero_judge.specs.Records.{CanBeShown, IsStepAt, round_of}
use Rattle.aero_judge.proofs.Explaining.{few_events, few_lines, begun_there, begin_within, begins, are_shown, can_be, round_is_within, enter_within, some_event, explained}
use Rattle.aero_judge.proofs.explained.cycle_of.Goals as goal

pub place_of-begin-requires-clause-few : goal.place_of-begin-requires-clause-few
place_of-begin-requires-clause-few c =
    let (parts, rules, line, thread, r) = c.requires in
    subst (λ ls. length ls < 2 ^ 32) (sym c.deref.ensures.value) (few_lines parts rules c.args.names.now c.args.recorder.now line thread c.args.begun r)

pub place_of-begin-requires-clause-there : goal.place_of-begin-requires-clause-there
place_of-begin-requires-clause-there c =
    let (parts, rules, line, thread, r) = c.requires in
    let h = begun_there parts rules c.args.names.now c.args.recorder.now line thread c.args.begun r in
    (h.0, ap (λ ls. slice_get ls h.0) c.deref.ensures.value ∙ h.1)

pub shortest_of-requires-clause-few : goal.shortest_of-requires-clause-few
shortest_of-requires-clause-few c =
    let (parts, rules, line, thread, r) = c.requires in
    subst (λ es. length es < 2 ^ 32) (sym c.deref-2.ensures.value) (few_events parts rules c.args.names.now c.args.recorder.now line thread c.args.begun r)

pub shortest_of-requires-clause-within : goal.shortest_of-requires-clause-within
shortest_of-requires-clause-within c =
    let (parts, rules, line, thread, r) = c.requires in
    let begin = c.place_of-begin.result in
    let at = ap (λ ls. slice_get ls begin) (sym c.deref.ensures.value) ∙ c.place_of-begin.ensures in
    subst (λ es. begin < length es) (sym c.deref-2.ensures.value) (begin_within parts rules c.args.names.now c.args.recorder.now line thread c.args.begun r begin at)

pub shortest_of-requires-clause-begins : goal.shortest_of-requires-clause-begins
shortest_of-requires-clause-begins c =
    let (parts, rules, line, thread, r) = c.requires in
    let begin = c.place_of-begin.result in
    let at = ap (λ ls. slice_get ls begin) (sym c.deref.ensures.value) ∙ c.place_of-begin.ensures in
    subst (λ es. BeginsCycle es (length es) (transaction es begin)) (sym c.deref-2.ensures.value) (begins parts rules c.args.names.now c.args.recorder.now line thread c.args.begun r begin at)

pub steps_at-requires-clause-shown : goal.steps_at-requires-clause-shown
steps_at-requires-clause-shown c =
    let (parts, rules, line, thread, r) = c.requires in
    let firsts = c.in_ok-shortest.shortest.transactions.firsts.items in
    let begin = c.place_of-begin.result in
    let at = ap (λ ls. slice_get ls begin) (sym c.deref.ensures.value) ∙ c.place_of-begin.ensures in
    let are = subst (λ es. AreFirstsTo es (length es) firsts) c.deref-2.ensures.value c.in_ok-shortest.ensures.transactions.firsts in
    subst (CanBeShown c.args.names.now c.args.recorder.now) (sym c.deref-4.ensures.value) (can_be parts rules c.args.names.now c.args.recorder.now line thread c.args.begun r begin at firsts are)

pub steps_at-requires-clause-within : goal.steps_at-requires-clause-within
steps_at-requires-clause-within c =
    let (parts, rules, line, thread, r) = c.requires in
    let firsts = c.in_ok-shortest.shortest.transactions.firsts.items in
    let visits = c.in_ok-shortest.shortest.visits.items in
    let begin = c.place_of-begin.result in
    let at = ap (λ ls. slice_get ls begin) (sym c.deref.ensures.value) ∙ c.place_of-begin.ensures in
    let are = subst (λ es. AreFirstsTo es (length es) firsts) c.deref-2.ensures.value c.in_ok-shortest.ensures.transactions.firsts in
    let shortest = subst (λ es. IsShortest es (transaction es begin) visits) c.deref-2.ensures.value c.in_ok-shortest.ensures.visits in
    let round : c.deref-5.result.now ≡ round_of visits = c.deref-5.ensures.value ∙ c.in_ok-places.ensures ∙ ap round_of c.deref-3.ensures.value in
    subst (All (λ place. place < length c.args.recorder.now.events.items)) (sym round) (round_is_within parts rules c.args.names.now c.args.recorder.now line thread c.args.begun r begin at firsts are visits shortest)

pub transactions_of-requires-clause-few : goal.transactions_of-requires-clause-few
transactions_of-requires-clause-few c =
    let (parts, rules, line, thread, r) = c.requires in
    few_events parts rules c.args.names.now c.args.recorder.now line thread c.args.begun r

pub transactions_of-requires-clause-shown : goal.transactions_of-requires-clause-shown
transactions_of-requires-clause-shown c =
    let (parts, rules, line, thread, r) = c.requires in
    are_shown parts rules c.args.names.now c.args.recorder.now line thread c.args.begun r

pub transactions_of-requires-clause-of : goal.transactions_of-requires-clause-of
transactions_of-requires-clause-of c = subst (λ es. AreOf es c.in_ok-shortest.shortest.transactions) c.deref-2.ensures.value c.in_ok-shortest.ensures.transactions

pub transactions_of-requires-clause-within : goal.transactions_of-requires-clause-within
transactions_of-requires-clause-within c =
    let (parts, rules, line, thread, r) = c.requires in
    let firsts = c.in_ok-shortest.shortest.transactions.firsts.items in
    let visits = c.in_ok-shortest.shortest.visits.items in
    let begin = c.place_of-begin.result in
    let at = ap (λ ls. slice_get ls begin) (sym c.deref.ensures.value) ∙ c.place_of-begin.ensures in
    let are = subst (λ es. AreFirstsTo es (length es) firsts) c.deref-2.ensures.value c.in_ok-shortest.ensures.transactions.firsts in
    let shortest = subst (λ es. IsShortest es (transaction es begin) visits) c.deref-2.ensures.value c.in_ok-shortest.ensures.visits in
    enter_within parts rules c.args.names.now c.args.recorder.now line thread c.args.begun r begin at firsts are visits shortest

pub event_at-requires-clause-shown : goal.event_at-requires-clause-shown
event_at-requires-clause-shown c =
    let (parts, rules, line, thread, r) = c.requires in
    are_shown parts rules c.args.names.now c.args.recorder.now line thread c.args.begun r

pub event_at-requires-clause-within : goal.event_at-requires-clause-within
event_at-requires-clause-within c =
    let (parts, rules, line, thread, r) = c.requires in
    let begin = c.place_of-begin.result in
    let at = ap (λ ls. slice_get ls begin) (sym c.deref.ensures.value) ∙ c.place_of-begin.ensures in
    begin_within parts rules c.args.names.now c.args.recorder.now line thread c.args.begun r begin at

pub closing_event-requires-clause-few : goal.closing_event-requires-clause-few
closing_event-requires-clause-few c =
    let (parts, rules, line, thread, r) = c.requires in
    few_events parts rules c.args.names.now c.args.recorder.now line thread c.args.begun r

pub closing_event-requires-clause-some : goal.closing_event-requires-clause-some
closing_event-requires-clause-some c =
    let (parts, rules, line, thread, r) = c.requires in
    some_event parts rules c.args.names.now c.args.recorder.now line thread c.args.begun r

pub closing_event-requires-clause-shown : goal.closing_event-requires-clause-shown
closing_event-requires-clause-shown c =
    let (parts, rules, line, thread, r) = c.requires in
    are_shown parts rules c.args.names.now c.args.recorder.now line thread c.args.begun r

pub returns : goal.returns
returns c = λ parts rules line thread r.
    let firsts = c.in_ok-shortest.shortest.transactions.firsts.items in
    let visits = c.in_ok-shortest.shortest.visits.items in
    let begin = c.place_of-begin.result in
    let at = ap (λ ls. slice_get ls begin) (sym c.deref.ensures.value) ∙ c.place_of-begin.ensures in
    let are = subst (λ es. AreFirstsTo es (length es) firsts) c.deref-2.ensures.value c.in_ok-shortest.ensures.transactions.firsts in
    let shortest = subst (λ es. IsShortest es (transaction es begin) visits) c.deref-2.ensures.value c.in_ok-shortest.ensures.visits in
    let round : c.deref-5.result.now ≡ round_of visits = c.deref-5.ensures.value ∙ c.in_ok-places.ensures ∙ ap round_of c.deref-3.ensures.value in
    subst (λ l. IsExplained parts rules line thread c.args.begun (record { label = l; steps = c.in_ok-steps.steps; transactions = c.in_ok-transactions.transactions; closing = c.in_ok-closing.closing })) (sym (ap (λ (e : Named). e.target) c.opener.view_is))
    (explained parts rules c.args.names.now c.args.recorder.now line thread c.args.begun r begin at firsts are visits shortest c.deref-5.result.now c.in_ok-steps.steps c.in_ok-transactions.transactions c.in_ok-opener.opener c.in_ok-closing.closing round
    (subst (λ fs. AllZip (IsStepAt c.args.names.now c.args.recorder.now fs) c.deref-5.result.now c.in_ok-steps.steps.items) c.deref-4.ensures.value c.in_ok-steps.ensures)
    c.in_ok-transactions.ensures c.in_ok-opener.ensures c.in_ok-closing.ensures)
