use Rattle.std.proofs.Common.{get_or, take, sym, subst, ◌+◌}
use Rattle.std.specs.List.{AllZip}
use Rattle.std.proofs.lemmas.Option.{slice_get-get_or}
use Rattle.aero_witness.specs.declared.visit.Visit.{Visit}
use Rattle.aero_judge.specs.Spans.{IsSpanOf}
use Rattle.aero_judge.proofs.Zipped.{zip_more}
use Rattle.aero_judge.proofs.spans.spans_by.Goals as goal

pub loop-visit-preserved : goal.loop-visit-preserved
loop-visit-preserved c =
    let R = IsSpanOf c.args.events.now in
    let visits = c.args.visits.now in
    let i = c.loop-visit.visit-index in
    let none : Visit = record { enters = 0; leaves = 0 } in
    let at = slice_get-get_or visits i none c.loop-visit-test.true in
    subst (AllZip R (take (i + 1) visits)) (sym c.in_ok-push.ensures.items) (zip_more R visits c.loop-visit.spans.items i (get_or visits i none) c.span_at.result c.loop-visit.invariant at c.span_at.ensures)
