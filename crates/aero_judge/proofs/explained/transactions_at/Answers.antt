use Rattle.std.proofs.Common.{get_or, take, sym, subst, ◌+◌, None}
use Rattle.std.specs.List.{AllZip}
use Rattle.std.proofs.lemmas.Option.{slice_get-get_or}
use Rattle.aero_judge.specs.declared.spans.Span.{Span}
use Rattle.aero_judge.specs.Records.{IsTransactionAt}
use Rattle.aero_judge.proofs.Zipped.{zip_more}
use Rattle.aero_judge.proofs.explained.transactions_at.Goals as goal

pub loop-span-preserved : goal.loop-span-preserved
loop-span-preserved c =
    let R = IsTransactionAt c.args.names.now c.args.recorder.now in
    let spans = c.args.spans.now in
    let i = c.loop-span.span-index in
    let none : Span = record { first = 0; last = None } in
    let at = slice_get-get_or spans i none c.loop-span-test.true in
    subst (AllZip R (take (i + 1) spans)) (sym c.in_ok-push.ensures.items) (zip_more R spans c.loop-span.told.items i (get_or spans i none) c.in_ok-transaction_at.field-0 c.loop-span.invariant at c.in_ok-transaction_at.ensures)
