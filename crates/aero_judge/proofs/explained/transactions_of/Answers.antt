use Rattle.std.proofs.Common.{◌<◌, length, sym, subst}
use Rattle.std.specs.Prelude.{All}
use Rattle.std.specs.List.{AllZip}
use Rattle.aero_judge.specs.declared.spans.Span.{Span}
use Rattle.aero_judge.specs.Records.{IsTransactionAt, IsTransactionOf}
use Rattle.aero_judge.specs.Spans.{IsSpanOf}
use Rattle.aero_judge.proofs.ReadAt.{as_well}
use Rattle.aero_judge.proofs.Spanning.{spans_within}
use Rattle.aero_judge.proofs.Zipped.{zip_on}
use Rattle.aero_judge.proofs.explained.transactions_of.Goals as goal

pub transactions_at-requires-clause-within : goal.transactions_at-requires-clause-within
transactions_at-requires-clause-within c =
    let events = c.args.recorder.now.events.items in
    let visits = c.args.shortest.now.visits.items in
    let spans = c.in_ok-spans.spans.items in
    let zip = subst (λ es. AllZip (IsSpanOf es) visits spans) c.deref.ensures.value
    (subst (λ vs. AllZip (IsSpanOf c.deref.result.now) vs spans) c.deref-2.ensures.value c.in_ok-spans.ensures) in
    subst (All (λ (s : Span). s.first < length events)) (sym c.deref-3.ensures.value) (spans_within events visits spans c.requires.within zip)

pub returns : goal.returns
returns c =
    let events = c.args.recorder.now.events.items in
    let visits = c.args.shortest.now.visits.items in
    let spans = c.in_ok-spans.spans.items in
    let told_at = IsTransactionAt c.args.names.now c.args.recorder.now in
    let zip = subst (λ es. AllZip (IsSpanOf es) visits spans) c.deref.ensures.value
    (subst (λ vs. AllZip (IsSpanOf c.deref.result.now) vs spans) c.deref-2.ensures.value c.in_ok-spans.ensures) in
    as_well c.transactions_at.result _ _ (λ told are.
    zip_on (IsSpanOf events) told_at (IsTransactionOf c.args.names.now c.args.recorder.now) (λ v s t of is. (s, of, is)) visits spans told.items zip
    (subst (λ ss. AllZip told_at ss told.items) c.deref-3.ensures.value are)) c.transactions_at.ensures
