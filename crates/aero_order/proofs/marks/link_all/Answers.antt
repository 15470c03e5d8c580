use Rattle.std.proofs.Common.{[], ◌∷◌, take, get_or, sym, subst}
use Rattle.std.proofs.lemmas.List.{take_more}
use Rattle.aero_order.specs.LastNumbers.{AreLinked}
use Rattle.aero_order.proofs.Linked.{linked_none, linked_append}
use Rattle.aero_order.proofs.marks.link_all.Goals as goal

pub loop-u-init : goal.loop-u-init
loop-u-init c = linked_none c.args.edges.now.items c.args.number

pub loop-u-preserved : goal.loop-u-preserved
loop-u-preserved c =
    let us = c.args.from.now in
    let i = c.loop-u.u-index in
    subst (λ xs. AreLinked c.args.edges.now.items c.args.number xs c.link.new.edges.items) (sym (take_more us i 0 c.loop-u-test.true))
    (linked_append c.args.edges.now.items c.loop-u.edges.items c.link.new.edges.items c.args.number (take i us) (get_or us i 0 ∷ []) c.loop-u.invariant c.in_ok-link.ensures)
