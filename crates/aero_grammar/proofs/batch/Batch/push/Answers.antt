use Rattle.std.proofs.Common.{◌∙◌, sym, ap}
use Rattle.aero_grammar.specs.Batched.{Batched}
use Rattle.aero_grammar.proofs.Batches.{held_where_ok, said_where_ok}
use Rattle.aero_grammar.proofs.batch.Batch.push.Goals as goal

pub invariant_of-self-2 : goal.invariant_of-self-2
invariant_of-self-2 c ok =
    let added = c.add-added.ensures in
    held_where_ok c.self.inside.tables c.add-added.new.tables c.self.inside.events.items c.add-added.new.events.items c.self.inside.lines c.args.event.now c.add-added.result (sym c.is_err-self-inside.ensures.value ∙ ok)
    (c.self.invariant c.if-self.false) c.if-self-ge-MOST_LINES.false added.event added.names added.labels added.events added.grown

pub returns-clause-said : goal.returns-clause-said
returns-clause-said c =
    let added = c.add-added.ensures in
    said_where_ok c.self.inside.tables c.add-added.new.tables c.self.inside.events.items c.add-added.new.events.items c.self.inside.lines c.args.event.now c.add-added.result c.args.self.now.reading (ap (λ (b : Batched). b.reading) c.self.view_is)
    (c.self.invariant c.if-self.false) c.if-self-ge-MOST_LINES.false added.event added.names added.labels added.events added.grown
