use Rattle.std.proofs.Common.{◌∙◌, ℕ, sym, subst}
use Rattle.aero_model.specs.declared.numbered.Numbered.{Numbered}
use Rattle.aero_grammar.specs.Tabled.{named_in, line_in, lines_in}
use Rattle.aero_grammar.specs.Words.{IsEvent}
use Rattle.aero_engine.specs.Given.{words_of}
use Rattle.aero_verdict.specs.Known.{tables_in, is_told_exempt}
use Rattle.aero_verdict.proofs.KnownNames.{told_exempt, end_untold}
use Rattle.aero_verdict.proofs.KnownLines.{line_is, label_is, line_less}
use Rattle.aero_verdict.proofs.Lines.{passed_over, expected, one_more, refused_in, closed_in}
use Rattle.aero_verdict.proofs.checker.Checker.admit_all.Goals as goal

pub admit-requires-clause-next : goal.admit-requires-clause-next
admit-requires-clause-next g c =
    let t = tables_in c.args.chunk in
    let less = c.loop-event-test.true in
    let item = c.parts-line.result in
    let is = c.parts-line.ensures ∙ c.event-item.is in
    expected (words_of g.E.Engine.stands_for g.E.Engine.keeps) c.args.self.now c.loop-event.self c.args.chunk.labels.now c.args.chunk.exempt.now (lines_in t c.args.chunk.labels.now c.args.events.now) c.args.before c.args.most c.loop-event.event-index c.loop-event.invariant.admits (line_less t c.args.chunk.labels.now c.args.events.now c.loop-event.event-index less)
    (line_in t c.args.chunk.labels.now item) (line_is t c.args.chunk.labels.now c.args.events.now c.loop-event.event-index c.event-item.result item less is)
    c.if-line-most.false (is_told_exempt c.args.chunk.exempt.now item.1.what) (λ labels. told_exempt t c.args.chunk.labels.now labels c.args.chunk.exempt.now item.1.what (label_is t c.args.chunk.labels.now c.args.events.now c.loop-event.event-index c.event-item.result item less is c.requires.labelled)) (end_untold c.args.chunk.exempt.now item.1.what)
    c.requires.next

pub returns-in-Ok-Some-clause-stopped : goal.returns-in-Ok-Some-clause-stopped
returns-in-Ok-Some-clause-stopped g c =
    let t = tables_in c.args.chunk in
    let less = c.loop-event-test.true in
    let item = c.parts-line.result in
    let is = c.parts-line.ensures ∙ c.event-item.is in
    closed_in (words_of g.E.Engine.stands_for g.E.Engine.keeps) c.args.self.now c.loop-event.self c.args.chunk.labels.now c.args.chunk.exempt.now (lines_in t c.args.chunk.labels.now c.args.events.now) c.args.before c.args.most c.loop-event.event-index c.loop-event.invariant.admits (line_less t c.args.chunk.labels.now c.args.events.now c.loop-event.event-index less)
    (line_in t c.args.chunk.labels.now item) (line_is t c.args.chunk.labels.now c.args.events.now c.loop-event.event-index c.event-item.result item less is)
    c.if-line-most.false (is_told_exempt c.args.chunk.exempt.now item.1.what) (λ labels. told_exempt t c.args.chunk.labels.now labels c.args.chunk.exempt.now item.1.what (label_is t c.args.chunk.labels.now c.args.events.now c.loop-event.event-index c.event-item.result item less is c.requires.labelled)) (end_untold c.args.chunk.exempt.now item.1.what)
    c.admit.new.self c.in-Ok-Some.t c.in-Ok-Some.field-0 c.in-Ok-Some.field-0-is c.in-Ok-Some.ensures.counted c.in-Ok-Some.ensures.judged

pub returns-in-Err-clause-stopped : goal.returns-in-Err-clause-stopped
returns-in-Err-clause-stopped g c =
    let t = tables_in c.args.chunk in
    let less = c.loop-event-test.true in
    let item = c.parts-line.result in
    let is = c.parts-line.ensures ∙ c.event-item.is in
    refused_in (words_of g.E.Engine.stands_for g.E.Engine.keeps) c.args.self.now c.loop-event.self c.args.chunk.labels.now c.args.chunk.exempt.now (lines_in t c.args.chunk.labels.now c.args.events.now) c.args.before c.args.most c.loop-event.event-index c.loop-event.invariant.admits (line_less t c.args.chunk.labels.now c.args.events.now c.loop-event.event-index less)
    (line_in t c.args.chunk.labels.now item) (line_is t c.args.chunk.labels.now c.args.events.now c.loop-event.event-index c.event-item.result item less is)
    c.if-line-most.false (is_told_exempt c.args.chunk.exempt.now item.1.what) (λ labels. told_exempt t c.args.chunk.labels.now labels c.args.chunk.exempt.now item.1.what (label_is t c.args.chunk.labels.now c.args.events.now c.loop-event.event-index c.event-item.result item less is c.requires.labelled)) (end_untold c.args.chunk.exempt.now item.1.what)
    c.admit.new.self c.in-Err.fault c.in-Err.ensures.refused

pub loop-event-preserved-then-line-most : goal.loop-event-preserved-then-line-most
loop-event-preserved-then-line-most g c =
    let t = tables_in c.args.chunk in
    let less = c.loop-event-test.true in
    let item = c.parts-line.result in
    let is = c.parts-line.ensures ∙ c.event-item.is in
    record {
      admits =
          passed_over (words_of g.E.Engine.stands_for g.E.Engine.keeps) c.args.self.now c.loop-event.self c.args.chunk.labels.now c.args.chunk.exempt.now (lines_in t c.args.chunk.labels.now c.args.events.now) c.args.before c.args.most c.loop-event.event-index c.loop-event.invariant.admits (line_less t c.args.chunk.labels.now c.args.events.now c.loop-event.event-index less)
          (line_in t c.args.chunk.labels.now item) (line_is t c.args.chunk.labels.now c.args.events.now c.loop-event.event-index c.event-item.result item less is)
          c.if-line-most.true;
      known = c.loop-event.invariant.known;
    }

pub loop-event-preserved : goal.loop-event-preserved
loop-event-preserved g c =
    let t = tables_in c.args.chunk in
    let less = c.loop-event-test.true in
    let item = c.parts-line.result in
    let is = c.parts-line.ensures ∙ c.event-item.is in
    record {
      admits =
          one_more (words_of g.E.Engine.stands_for g.E.Engine.keeps) c.args.self.now c.loop-event.self c.args.chunk.labels.now c.args.chunk.exempt.now (lines_in t c.args.chunk.labels.now c.args.events.now) c.args.before c.args.most c.loop-event.event-index c.loop-event.invariant.admits (line_less t c.args.chunk.labels.now c.args.events.now c.loop-event.event-index less)
          (line_in t c.args.chunk.labels.now item) (line_is t c.args.chunk.labels.now c.args.events.now c.loop-event.event-index c.event-item.result item less is)
          c.if-line-most.false (is_told_exempt c.args.chunk.exempt.now item.1.what) (λ labels. told_exempt t c.args.chunk.labels.now labels c.args.chunk.exempt.now item.1.what (label_is t c.args.chunk.labels.now c.args.events.now c.loop-event.event-index c.event-item.result item less is c.requires.labelled)) (end_untold c.args.chunk.exempt.now item.1.what)
          c.admit.new.self c.in-Ok-None.field-0 c.in-Ok-None.field-0-is c.in-Ok-None.ensures.counted c.in-Ok-None.ensures.judged;
      known = c.in-Ok-None.ensures.known;
    }

pub admit-requires-clause-labelled : goal.admit-requires-clause-labelled
admit-requires-clause-labelled g c =
    label_is (tables_in c.args.chunk) c.args.chunk.labels.now c.args.events.now c.loop-event.event-index c.event-item.result c.parts-line.result c.loop-event-test.true (c.parts-line.ensures ∙ c.event-item.is) c.requires.labelled

pub admit-requires-clause-named : goal.admit-requires-clause-named
admit-requires-clause-named g c =
    subst (λ (e : ℕ × Numbered). IsEvent (named_in (tables_in c.args.chunk) c.args.chunk.labels.now e.1)) (sym (c.parts-line.ensures ∙ c.event-item.is)) (c.requires.named c.loop-event.event-index c.event-item.result c.loop-event-test.true)
