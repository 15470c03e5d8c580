use Rattle.std.proofs.Common.{◌-◌, length, get_or, arith, sym, ap, ◌∙◌, Some}
use Rattle.std.proofs.lemmas.Option.{slice_get-get_or}
use Rattle.aero_access.proofs.Visits.{slots_count, slot_of_thread, slot_of_label}
use Rattle.aero_access.proofs.index.Led.slot.Goals as goal

pub returns-then-i-pairs : goal.returns-then-i-pairs
returns-then-i-pairs c =
    slot_of_thread c.args.self.now c.pairs-pairs.result.now c.args.threads c.args.i (get_or c.pairs-pairs.result.now c.args.i (0, 0)) c.pairs-pairs.ensures
    (slice_get-get_or c.pairs-pairs.result.now c.args.i (0, 0) c.if-i-pairs.true)

pub index-requires : goal.index-requires
index-requires c = omega (arith, c.if-i-pairs.false, c.requires.within, slots_count c.args.self.now c.pairs-pairs.result.now c.args.threads c.pairs-pairs.ensures)

pub returns : goal.returns
returns c =
    slot_of_label c.args.self.now c.pairs-pairs.result.now c.args.threads c.args.i c.index.result.now c.pairs-pairs.ensures c.if-i-pairs.false
    (slice_get-get_or c.args.self.now.labels.items (c.args.i - length c.pairs-pairs.result.now) c.index.result.now (omega (arith, c.if-i-pairs.false, c.requires.within, slots_count c.args.self.now c.pairs-pairs.result.now c.args.threads c.pairs-pairs.ensures)) ∙ ap Some (sym c.index.ensures))
