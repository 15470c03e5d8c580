use Rattle.aero_access.proofs.Indexing.{index_absorbed, index_still, absorbs_nothing, absorbs_no_thread}
use Rattle.aero_access.proofs.changes.absorb.Goals as goal

pub returns-clause-index : goal.returns-clause-index
returns-clause-index c =
    index_absorbed c.args.threads.now c.absorb.new.threads c.args.table.now c.absorb.new.table c.args.index.now c.list_label.new.index c.list_slot.new.index c.args.t c.args.slot c.requires.slot c.absorb.ensures.same c.absorb.auto.threads
    c.list_label.ensures.thread c.in_ok-list_label.ensures.label c.in_ok-told.ensures.thread c.in_ok-told.ensures.label c.in_ok-list_slot.ensures.thread c.list_slot.ensures.label

pub returns-clause-still : goal.returns-clause-still
returns-clause-still c =
    index_still c.args.threads.now c.absorb.new.threads c.args.table.now c.absorb.new.table c.args.index.now c.list_label.new.index c.list_slot.new.index c.args.t c.args.slot c.requires.slot c.absorb.ensures.same c.absorb.auto.threads
    c.list_label.ensures.thread c.in_ok-list_label.ensures.label c.in_ok-told.ensures.thread c.in_ok-told.ensures.label c.in_ok-list_slot.ensures.thread c.list_slot.ensures.label

pub returns-then-is_past-clause-told : goal.returns-then-is_past-clause-told
returns-then-is_past-clause-told c = λ u. (
  λ e. absurd (cc),
  λ p. absurd (absorbs_no_thread c.args.threads.now c.args.table.now c.args.t c.args.slot u (c.is_past.ensures c.if-is_past.true) p.0),
)

pub returns-then-is_past-clause-absorbed : goal.returns-then-is_past-clause-absorbed
returns-then-is_past-clause-absorbed c = λ none. absorbs_nothing c.args.threads.now c.args.table.now c.args.t c.args.slot (c.is_past.ensures c.if-is_past.true)
