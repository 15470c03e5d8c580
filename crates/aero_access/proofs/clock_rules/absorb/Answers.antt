use Rattle.std.proofs.Common.{Some, refl, ◌-◌, get_or, ap, sym, ◌∙◌, length}
use Rattle.std.proofs.lemmas.Option.{slice_get-get_or}
use Rattle.aero_access.proofs.SlotNumbers.{label_kept, slot_label, no_thread, join_thread, join_kept}
use Rattle.std.proofs.lemmas.Bool.{both_ways}
use Rattle.aero_clock.specs.Numbers.{number_at}
use Rattle.aero_access.specs.StateWords.{state_in}
use Rattle.aero_access.proofs.OwnSteps.{same_blocks_set}
use Rattle.aero_access.proofs.Heeding.{heeds_same, slot_test, thread_heeds, kept_heeds, heeded_clock, heeded_table, joined_heeds, still_heeds, absorb_told}
use Rattle.aero_access.proofs.clock_rules.absorb.Goals as goal
use Rattle.aero_access.proofs.clock_rules.absorb.Goals.{then-closes, else-closes}

pub returns-then-slot-threads-clause-absorbed : goal.returns-then-slot-threads-clause-absorbed
returns-then-slot-threads-clause-absorbed c = λ none.
    let at = slice_get-get_or c.args.threads.now c.args.t c.index-threads-t.result c.requires.actor in
    let at_slot = slice_get-get_or c.args.threads.now c.args.slot c.index-threads-slot.result c.if-slot-threads.true in
    elim c.if-closes.branch [
      | then-closes w ↦ let is = w.result-is in absurd (cc)
      | else-closes w ↦
          join_thread c.args.threads.now c.args.table.now c.args.t c.args.slot (get_or c.args.threads.now c.args.t c.index-threads-t.result) (get_or c.args.threads.now c.args.slot c.index-threads-slot.result) c.take.new.self at at_slot
          c.in_ok-clock.clock (λ u. c.in_ok-clock.ensures.at u) (c.in_ok-closes.ensures.takes w.if-closes.false)
    ]

pub join-requires : goal.join-requires
join-requires c = label_kept c.args.table.now (c.args.slot - length c.args.threads.now) c.label-label.result c.label-label.ensures

pub returns-clause-told : goal.returns-clause-told
returns-clause-told c = λ u. (
  λ e. absurd (cc),
  λ p. absurd (no_thread c.args.threads.now c.args.table.now (c.args.slot - length c.args.threads.now) u
      (c.label-label.ensures ∙ ap Some (sym (slot_label c.args.threads.now c.args.table.now c.args.slot c.label-label.result c.if-slot-threads.false c.label-label.ensures) ∙ p.0))),
)

pub returns-clause-absorbed : goal.returns-clause-absorbed
returns-clause-absorbed c = λ none.
    let at = slice_get-get_or c.args.threads.now c.args.t c.index-threads-t-2.result c.requires.actor in
    join_kept c.args.threads.now c.args.table.now c.args.t c.args.slot c.label-label.result (get_or c.args.threads.now c.args.t c.index-threads-t-2.result) c.join.new.self at c.if-slot-threads.false c.label-label.ensures
    (get_or c.args.threads.now c.args.t c.index-threads-t-2.result).clock (λ u. refl) c.in_ok-join.ensures.joins

pub take-requires : goal.take-requires
take-requires c =
    let at = slice_get-get_or c.args.threads.now c.args.t c.index-threads-t.result c.requires.actor in
    let at_slot = slice_get-get_or c.args.threads.now c.args.slot c.index-threads-slot.result c.if-slot-threads.true in
    slot_test c.args.threads.now c.args.table.now c.args.slot (get_or c.args.threads.now c.args.slot c.index-threads-slot.result) c.requires.heeded at_slot (number_at c.in_ok-clock.clock) (heeds_same (state_in c.args.threads.now c.args.table.now) (number_at (get_or c.args.threads.now c.args.t c.index-threads-t.result).clock) (number_at c.in_ok-clock.clock) (λ v. c.in_ok-clock.ensures.at v) (thread_heeds c.args.threads.now c.args.table.now c.requires.heeded c.args.t (get_or c.args.threads.now c.args.t c.index-threads-t.result) at))

pub returns-in_err-closes-clause-same : goal.returns-in_err-closes-clause-same
returns-in_err-closes-clause-same c =
    let at = slice_get-get_or c.args.threads.now c.args.t c.index-threads-t.result c.requires.actor in
    let at_slot = slice_get-get_or c.args.threads.now c.args.slot c.index-threads-slot.result c.if-slot-threads.true in
    same_blocks_set c.args.threads.now c.args.slot (get_or c.args.threads.now c.args.slot c.index-threads-slot.result) c.take.new.self at_slot c.take.ensures.same

pub returns-then-slot-threads-clause-same : goal.returns-then-slot-threads-clause-same
returns-then-slot-threads-clause-same c =
    let at = slice_get-get_or c.args.threads.now c.args.t c.index-threads-t.result c.requires.actor in
    let at_slot = slice_get-get_or c.args.threads.now c.args.slot c.index-threads-slot.result c.if-slot-threads.true in
    same_blocks_set c.args.threads.now c.args.slot (get_or c.args.threads.now c.args.slot c.index-threads-slot.result) c.take.new.self at_slot c.take.ensures.same

pub returns-in_err-closes-clause-heeded : goal.returns-in_err-closes-clause-heeded
returns-in_err-closes-clause-heeded c =
    let at = slice_get-get_or c.args.threads.now c.args.t c.index-threads-t.result c.requires.actor in
    let at_slot = slice_get-get_or c.args.threads.now c.args.slot c.index-threads-slot.result c.if-slot-threads.true in
    heeded_clock c.args.threads.now c.args.table.now c.requires.heeded c.args.slot (get_or c.args.threads.now c.args.slot c.index-threads-slot.result) at_slot c.take.new.self c.take.ensures.same c.take.ensures.grows
    (c.take.ensures.heeds (state_in c.args.threads.now c.args.table.now) (thread_heeds c.args.threads.now c.args.table.now c.requires.heeded c.args.slot (get_or c.args.threads.now c.args.slot c.index-threads-slot.result) at_slot) (heeds_same (state_in c.args.threads.now c.args.table.now) (number_at (get_or c.args.threads.now c.args.t c.index-threads-t.result).clock) (number_at c.in_ok-clock.clock) (λ v. c.in_ok-clock.ensures.at v) (thread_heeds c.args.threads.now c.args.table.now c.requires.heeded c.args.t (get_or c.args.threads.now c.args.t c.index-threads-t.result) at)))

pub returns-then-slot-threads-clause-heeded : goal.returns-then-slot-threads-clause-heeded
returns-then-slot-threads-clause-heeded c =
    let at = slice_get-get_or c.args.threads.now c.args.t c.index-threads-t.result c.requires.actor in
    let at_slot = slice_get-get_or c.args.threads.now c.args.slot c.index-threads-slot.result c.if-slot-threads.true in
    heeded_clock c.args.threads.now c.args.table.now c.requires.heeded c.args.slot (get_or c.args.threads.now c.args.slot c.index-threads-slot.result) at_slot c.take.new.self c.take.ensures.same c.take.ensures.grows
    (c.take.ensures.heeds (state_in c.args.threads.now c.args.table.now) (thread_heeds c.args.threads.now c.args.table.now c.requires.heeded c.args.slot (get_or c.args.threads.now c.args.slot c.index-threads-slot.result) at_slot) (heeds_same (state_in c.args.threads.now c.args.table.now) (number_at (get_or c.args.threads.now c.args.t c.index-threads-t.result).clock) (number_at c.in_ok-clock.clock) (λ v. c.in_ok-clock.ensures.at v) (thread_heeds c.args.threads.now c.args.table.now c.requires.heeded c.args.t (get_or c.args.threads.now c.args.t c.index-threads-t.result) at)))

pub returns-then-slot-threads-clause-told : goal.returns-then-slot-threads-clause-told
returns-then-slot-threads-clause-told c =
    let at = slice_get-get_or c.args.threads.now c.args.t c.index-threads-t.result c.requires.actor in
    let at_slot = slice_get-get_or c.args.threads.now c.args.slot c.index-threads-slot.result c.if-slot-threads.true in
    elim c.if-closes.branch [
      | then-closes w ↦ absorb_told c.args.threads.now c.args.table.now c.args.t c.args.slot (get_or c.args.threads.now c.args.t c.index-threads-t.result) (get_or c.args.threads.now c.args.slot c.index-threads-slot.result) at at_slot c.in_ok-clock.clock (λ u. c.in_ok-clock.ensures.at u) c.in_ok-closes.closes c.if-closes.result (λ _. w.result-is) (λ f. absurd (both_ways c.in_ok-closes.closes f w.if-closes.true)) c.in_ok-closes.ensures.closing
      | else-closes w ↦ absorb_told c.args.threads.now c.args.table.now c.args.t c.args.slot (get_or c.args.threads.now c.args.t c.index-threads-t.result) (get_or c.args.threads.now c.args.slot c.index-threads-slot.result) at at_slot c.in_ok-clock.clock (λ u. c.in_ok-clock.ensures.at u) c.in_ok-closes.closes c.if-closes.result (λ f. absurd (both_ways c.in_ok-closes.closes w.if-closes.false f)) (λ _. w.result-is) c.in_ok-closes.ensures.closing
    ]

pub returns-in_err-join-clause-heeded : goal.returns-in_err-join-clause-heeded
returns-in_err-join-clause-heeded c =
    heeded_table c.args.threads.now c.args.table.now c.join.new.self (still_heeds (state_in c.args.threads.now c.args.table.now) c.args.table.now c.join.new.self c.in_err-join.ensures.err (kept_heeds c.args.threads.now c.args.table.now c.requires.heeded)) c.requires.heeded

pub returns-clause-heeded : goal.returns-clause-heeded
returns-clause-heeded c =
    let at = slice_get-get_or c.args.threads.now c.args.t c.index-threads-t-2.result c.requires.actor in
    heeded_table c.args.threads.now c.args.table.now c.join.new.self (joined_heeds (state_in c.args.threads.now c.args.table.now) c.args.table.now c.join.new.self c.label-label.result (number_at (get_or c.args.threads.now c.args.t c.index-threads-t-2.result).clock) c.in_ok-join.ensures.joins (thread_heeds c.args.threads.now c.args.table.now c.requires.heeded c.args.t (get_or c.args.threads.now c.args.t c.index-threads-t-2.result) at) (kept_heeds c.args.threads.now c.args.table.now c.requires.heeded)) c.requires.heeded
