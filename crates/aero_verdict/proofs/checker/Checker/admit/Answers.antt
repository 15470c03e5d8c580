use Rattle.std.proofs.Common.{refl, sym, subst, arith}
use Rattle.std.proofs.lemmas.Result.{err_from_is_err_and}
use Rattle.aero_grammar.specs.Tabled.{named_in}
use Rattle.aero_grammar.proofs.TablesGrown.{has_here}
use Rattle.aero_model.specs.Exempt.{label_of}
use Rattle.aero_engine.specs.Given.{words_of}
use Rattle.aero_verdict.specs.Standing.{IsNext}
use Rattle.aero_verdict.specs.Known.{tables_in, is_told_exempt}
use Rattle.aero_verdict.proofs.Steps.{refused_by_limit, refused_by_shape, short_enough, comes_after, is_judged_as, judged, few_events, few_begun, few_ended, on_ok_here}
use Rattle.aero_verdict.proofs.checker.Checker.admit.Goals as goal

pub returns-in_err-numbered-clause-refused : goal.returns-in_err-numbered-clause-refused
returns-in_err-numbered-clause-refused g c =
    let e = named_in (tables_in c.args.chunk) c.args.chunk.labels.now c.args.event in
    let has = has_here (tables_in c.args.chunk) c.args.chunk.labels.now c.args.event.what in
    let exempt = is_told_exempt c.args.chunk.exempt.now c.args.event.what in
    let p = err_from_is_err_and c.from_residual.result c.from_residual.ensures.1 in
    rw (p.1, p.2) (λ rules events next. refused_by_limit (words_of g.E.Engine.stands_for g.E.Engine.keeps) rules events c.args.self.now c.args.line e exempt has next c.in_err-numbered.field-0.0 c.in_err-numbered.ensures.err)

pub admit-requires : goal.admit-requires
admit-requires g c =
    let e = named_in (tables_in c.args.chunk) c.args.chunk.labels.now c.args.event in
    let exempt = is_told_exempt c.args.chunk.exempt.now c.args.event.what in
    let few = few_events (words_of g.E.Engine.stands_for g.E.Engine.keeps) c.requires.next.0 c.requires.next.1 c.args.self.now (c.args.line, e) exempt c.requires.next.3 c.requires.next.2 in
    omega arith

pub returns-in_err-admitted-clause-refused : goal.returns-in_err-admitted-clause-refused
returns-in_err-admitted-clause-refused g c =
    let e = named_in (tables_in c.args.chunk) c.args.chunk.labels.now c.args.event in
    let has = has_here (tables_in c.args.chunk) c.args.chunk.labels.now c.args.event.what in
    let p = err_from_is_err_and c.from_residual-in_err-admitted.result c.from_residual-in_err-admitted.ensures.1 in
    rw (p.1, p.2) (λ rules events next.
    let here = subst (IsNext (words_of g.E.Engine.stands_for g.E.Engine.keeps) rules c.args.self.now events (c.args.line, e)) (sym c.is_exempt.ensures) next in
    refused_by_shape (words_of g.E.Engine.stands_for g.E.Engine.keeps) rules events c.args.self.now c.args.line e c.is_exempt.result has here c.number.new.self c.in_ok-numbered.numbered c.in_ok-numbered.ensures.ok
    c.in_err-admitted.field-0.0 (c.in_err-admitted.ensures.told _ next.0.counts.shape_stands))

pub count-requires-clause-begun : goal.count-requires-clause-begun
count-requires-clause-begun g c =
    let e = named_in (tables_in c.args.chunk) c.args.chunk.labels.now c.args.event in
    let exempt = is_told_exempt c.args.chunk.exempt.now c.args.event.what in
    let few = few_events (words_of g.E.Engine.stands_for g.E.Engine.keeps) c.requires.next.0 c.requires.next.1 c.args.self.now (c.args.line, e) exempt c.requires.next.3 c.requires.next.2 in
    let fewer = few_begun (words_of g.E.Engine.stands_for g.E.Engine.keeps) c.requires.next.0 c.requires.next.1 c.args.self.now c.requires.next.3.0 in
    omega arith

pub count-requires-clause-ended : goal.count-requires-clause-ended
count-requires-clause-ended g c =
    let e = named_in (tables_in c.args.chunk) c.args.chunk.labels.now c.args.event in
    let exempt = is_told_exempt c.args.chunk.exempt.now c.args.event.what in
    let few = few_events (words_of g.E.Engine.stands_for g.E.Engine.keeps) c.requires.next.0 c.requires.next.1 c.args.self.now (c.args.line, e) exempt c.requires.next.3 c.requires.next.2 in
    let fewer = few_ended (words_of g.E.Engine.stands_for g.E.Engine.keeps) c.requires.next.0 c.requires.next.1 c.args.self.now c.requires.next.3.0 in
    omega arith

pub judge-requires : goal.judge-requires
judge-requires g c =
    let e = named_in (tables_in c.args.chunk) c.args.chunk.labels.now c.args.event in
    let has = has_here (tables_in c.args.chunk) c.args.chunk.labels.now c.args.event.what in
    let next = subst (IsNext (words_of g.E.Engine.stands_for g.E.Engine.keeps) c.requires.next.0 c.args.self.now c.requires.next.1 (c.args.line, e)) (sym c.is_exempt.ensures) c.requires.next.3 in
    short_enough (words_of g.E.Engine.stands_for g.E.Engine.keeps) c.requires.next.0 c.requires.next.1 c.args.self.now c.args.line e c.is_exempt.result has next c.number.new.self c.in_ok-numbered.numbered c.in_ok-numbered.ensures.ok
    c.in_ok-admitted.admitted (c.in_ok-admitted.ensures.told _ next.0.counts.shape_stands) c.admit.new.self (c.in_ok-admitted.ensures.ok _ next.0.counts.shape_stands) c.requires.next.2

pub returns-in-Ok-clause-judged : goal.returns-in-Ok-clause-judged
returns-in-Ok-clause-judged g c = λ rules events next.
    let e = named_in (tables_in c.args.chunk) c.args.chunk.labels.now c.args.event in
    let has = has_here (tables_in c.args.chunk) c.args.chunk.labels.now c.args.event.what in
    let here = subst (IsNext (words_of g.E.Engine.stands_for g.E.Engine.keeps) rules c.args.self.now events (c.args.line, e)) (sym c.is_exempt.ensures) next in
    let tells = c.in_ok-admitted.ensures.told _ here.0.counts.shape_stands in
    let stands = c.in_ok-admitted.ensures.ok _ here.0.counts.shape_stands in
    judged (words_of g.E.Engine.stands_for g.E.Engine.keeps) rules events c.args.self.now c.args.line e c.is_exempt.result has here c.number.new.self c.in_ok-numbered.numbered c.in_ok-numbered.ensures.ok
    c.in_ok-admitted.admitted tells c.admit.new.self stands
    c.requires.named c.count.new.self (on_ok_here c.count.result _ (sym c.if-is_err.ensures.value) c.count.ensures) c.in-Ok.told _ refl refl refl refl
    (c.in-Ok.ensures.told _ _ (is_judged_as (words_of g.E.Engine.stands_for g.E.Engine.keeps) rules events c.args.self.now c.args.line e c.is_exempt.result has here c.number.new.self c.in_ok-numbered.numbered c.in_ok-numbered.ensures.ok
    c.in_ok-admitted.admitted tells c.admit.new.self stands)
    (comes_after (words_of g.E.Engine.stands_for g.E.Engine.keeps) rules events c.args.self.now c.args.line e c.is_exempt.result has here c.number.new.self c.in_ok-numbered.numbered c.in_ok-numbered.ensures.ok
    c.in_ok-admitted.admitted tells c.admit.new.self stands))
    (λ gs. c.in-Ok.ensures.kept gs (label_of e.op e.target) c.label_given-label.ensures)
