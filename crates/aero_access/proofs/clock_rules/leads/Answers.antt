use Rattle.std.proofs.Common.{◌-◌, Some, get_or, sym, ap, ◌∙◌, length}
use Rattle.std.proofs.lemmas.Option.{slice_get-get_or}
use Rattle.aero_clock.specs.Numbers.{number_at}
use Rattle.aero_access.proofs.SlotNumbers.{unlabelled}
use Rattle.aero_access.proofs.Heeding.{slot_test, thread_heeds, one_heeds, tested_thread, tested_kept}
use Rattle.aero_access.proofs.clock_rules.leads.Goals as goal

pub is_closed_by-requires : goal.is_closed_by-requires
is_closed_by-requires c =
    let at = slice_get-get_or c.args.threads.now c.args.t c.index-threads-t.result c.requires.actor ∙ ap Some (sym c.index-threads-t.is) in
    let at_slot = slice_get-get_or c.args.threads.now c.args.slot c.index-threads-slot.result c.if-slot-threads.true in
    slot_test c.args.threads.now c.args.table.now c.args.t c.index-threads-t.result c.requires.heeded at (number_at (get_or c.args.threads.now c.args.slot c.index-threads-slot.result).clock) (thread_heeds c.args.threads.now c.args.table.now c.requires.heeded c.args.slot (get_or c.args.threads.now c.args.slot c.index-threads-slot.result) at_slot)

pub returns-then-slot-threads : goal.returns-then-slot-threads
returns-then-slot-threads c =
    let at = slice_get-get_or c.args.threads.now c.args.t c.index-threads-t.result c.requires.actor ∙ ap Some (sym c.index-threads-t.is) in
    let at_slot = slice_get-get_or c.args.threads.now c.args.slot c.index-threads-slot.result c.if-slot-threads.true in
    tested_thread c.args.threads.now c.args.table.now c.args.t c.index-threads-t.result at c.is_closed_by.result c.args.slot (get_or c.args.threads.now c.args.slot c.index-threads-slot.result) at_slot c.is_closed_by.ensures

pub is_closed_by-requires-in-Some : goal.is_closed_by-requires-in-Some
is_closed_by-requires-in-Some c =
    let at = slice_get-get_or c.args.threads.now c.args.t c.index-threads-t.result c.requires.actor ∙ ap Some (sym c.index-threads-t.is) in
    slot_test c.args.threads.now c.args.table.now c.args.t c.index-threads-t.result c.requires.heeded at (number_at c.in-Some.kept.now.clock) (one_heeds c.args.threads.now c.args.table.now c.requires.heeded c.label.result c.in-Some.kept.now (sym c.in-Some.ensures))

pub returns-in-Some : goal.returns-in-Some
returns-in-Some c =
    let at = slice_get-get_or c.args.threads.now c.args.t c.index-threads-t.result c.requires.actor ∙ ap Some (sym c.index-threads-t.is) in
    tested_kept c.args.threads.now c.args.table.now c.args.t c.index-threads-t.result at c.is_closed_by-in-Some.result c.args.slot c.label.result c.in-Some.kept.now c.if-slot-threads.false c.label.ensures c.in-Some.ensures c.is_closed_by-in-Some.ensures

pub returns-in-None : goal.returns-in-None
returns-in-None c = absurd (unlabelled c.args.table.now (c.args.slot - length c.args.threads.now) c.label.result c.label.ensures c.in-None.ensures)
