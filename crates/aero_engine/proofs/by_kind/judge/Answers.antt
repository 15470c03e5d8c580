use Rattle.std.proofs.Common.{length, subst}
use Rattle.std.specs.Prelude.{IfOk}
use Rattle.aero_engine.specs.Judging.{ComesAfter, Tells}
use Rattle.aero_engine.proofs.Judging.{begins_few, end_follows, plain_follows, plain_after}
use Rattle.aero_engine.proofs.by_kind.judge.Goals as goal

pub begin-requires-clause-count : goal.begin-requires-clause-count
begin-requires-clause-count g c =
    let t = c.args.event.now.thread in
    let (h, judged, judges, short, after) = c.requires in
    let agrees = g.met.E.ByKind.agrees c.args.engine.now h after.standing in
    begins_few (g.E.ByKind.stands_for c.args.engine.now) h c.args.event.now judged judges c.args.admitted after short
    ((g.E.ByKind.view c.args.engine.now).begins t) (agrees.begins t)

pub returns-in-OuterEnd : goal.returns-in-OuterEnd
returns-in-OuterEnd g c = λ h judged judges after.
    end_follows (g.E.ByKind.stands_for c.args.engine.now) h c.args.event.now judged judges c.args.admitted after
    (λ trace. IfOk c.end.result (Tells (g.E.ByKind.stands_for c.end.new.self) trace (length h)))
    c.in-OuterEnd.is (c.end.ensures h)

pub act-requires : goal.act-requires
act-requires g c =
    let stands = g.E.ByKind.stands_for c.args.engine.now in
    let (h, judged, judges, short, after) = c.requires in
    let plain = plain_after stands h c.args.event.now judged judges c.args.admitted after in
    (h, judged.what, judges.what, (c.in-Plain.in_block, subst (ComesAfter stands h _) c.in-Plain.is plain))

pub returns-in-Plain : goal.returns-in-Plain
returns-in-Plain g c = λ h judged judges after.
    let stands = g.E.ByKind.stands_for c.args.engine.now in
    plain_follows stands h c.args.event.now judged judges c.args.admitted after
    (λ trace. IfOk c.act.result (Tells (g.E.ByKind.stands_for c.act.new.engine) trace (length h)))
    (λ same. c.act.ensures h judged.what judges.what (c.in-Plain.in_block, subst (ComesAfter stands h _) c.in-Plain.is same))
