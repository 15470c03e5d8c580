use Rattle.std.proofs.Common.{get_or, sym, subst, arith}
use Rattle.aero_witness.proofs.Starting.{first_within}
use Rattle.aero_judge.specs.Spans.{IsSpan}
use Rattle.aero_judge.proofs.ReadAt.{at_read}
use Rattle.aero_judge.proofs.Spanning.{span_is}
use Rattle.aero_judge.proofs.spans.span_at.Goals as goal

pub bounds-lasts-first : goal.bounds-lasts-first
bounds-lasts-first c =
    let are = c.requires.of.firsts in
    let firsts = c.args.transactions.now.firsts.items in
    let place = c.args.place in
    let each = are.each in
    let within = c.requires.within in
    let at = at_read firsts c.as_slice-firsts.result.now place 0 c.as_slice-firsts.ensures.value (omega (arith, each, within)) in
    let lasts_each = c.requires.lasts.each in
    let less = first_within c.args.events.now firsts are place (get_or c.as_slice-firsts.result.now place 0) at in
    omega (arith, lasts_each, less)

pub returns : goal.returns
returns c =
    let are = c.requires.of.firsts in
    let events = c.args.events.now in
    let firsts = c.args.transactions.now.firsts.items in
    let place = c.args.place in
    let each = are.each in
    let within = c.requires.within in
    let first = get_or c.as_slice-firsts.result.now place 0 in
    let at = at_read firsts c.as_slice-firsts.result.now place 0 c.as_slice-firsts.ensures.value (omega (arith, each, within)) in
    subst (λ l. IsSpan events place (record { first = first; last = l })) (sym c.then_some.ensures)
    (span_is events firsts are c.args.lasts.now c.requires.lasts place first at c.has_ended-ended.result c.has_ended-ended.ensures)
