use Rattle.std.proofs.Common.{◌≡◌, sym, ◌∙◌, ap}
use Rattle.aero_engine.specs.Given.{words_of}
use Rattle.aero_verdict.specs.Fed.{Fed}
use Rattle.aero_model.specs.Terms.{ruled}
use Rattle.aero_verdict.proofs.Feeding.{expected_part, stays_part, fed_part, certain_so, open_told, lines_told, readings_more}
use Rattle.aero_verdict.proofs.monitor.Monitor.feed.Goals as goal

pub invariant_of-self : goal.invariant_of-self
invariant_of-self g c = record {
  so =
      stays_part (words_of g.E.Engine.stands_for g.E.Engine.keeps) c.self.inside.limits c.self.inside.ends c.self.inside.fed.labels c.with-self-inside.result.labels c.self.inside.fed.parts c.with-self-inside.result.parts c.args.part.now
      c.self.inside.lines c.self.inside.checker c.self.inside.state (λ undecided. absurd (let no = c.if-not-is_undecided.true in let yes_it_is = c.is_undecided.ensures.1 undecided in cc)) c.with-self-inside.ensures.0 c.with-self-inside.ensures.1 c.self.invariant.so;
  few = c.self.invariant.few;
  readings = readings_more c.self.inside.fed.parts c.with-self-inside.result.parts c.args.part.now c.with-self-inside.ensures.1 c.self.invariant.readings c.is_reading.ensures;
}

pub judge_part-lines-requires : goal.judge_part-lines-requires
judge_part-lines-requires g c =
    let same : c.self.inside.fed.labels ≡ c.args.except.now = ap (λ (f : Fed). f.rules.labels) c.self.view_is ∙ sym c.requires in
    expected_part (words_of g.E.Engine.stands_for g.E.Engine.keeps) c.self.inside.limits c.self.inside.ends c.self.inside.fed.labels c.args.except.now c.self.inside.fed.parts c.args.part.now c.self.inside.lines c.self.inside.checker c.self.inside.state
    (c.is_undecided.ensures.0 c.if-not-is_undecided.false) same c.self.invariant.so

pub invariant_of-self-2 : goal.invariant_of-self-2
invariant_of-self-2 g c =
    let same : c.self.inside.fed.labels ≡ c.args.except.now = ap (λ (f : Fed). f.rules.labels) c.self.view_is ∙ sym c.requires in
    record {
      so = fed_part (words_of g.E.Engine.stands_for g.E.Engine.keeps) c.self.inside.limits c.self.inside.ends c.self.inside.fed.labels c.with-self-inside.result.labels c.args.except.now c.self.inside.fed.parts c.with-self-inside.result.parts c.args.part.now
          c.self.inside.lines c.self.inside.checker c.self.inside.state c.judge_part-lines.result.0 c.judge_part-lines.new.checker c.judge_part-lines.result.1
          (c.is_undecided.ensures.0 c.if-not-is_undecided.false) same c.with-self-inside.ensures.0 c.with-self-inside.ensures.1 c.self.invariant.so c.judge_part-lines.ensures.so;
      few = c.judge_part-lines.ensures.few;
      readings = readings_more c.self.inside.fed.parts c.with-self-inside.result.parts c.args.part.now c.with-self-inside.ensures.1 c.self.invariant.readings c.is_reading.ensures;
    }

pub returns-clause-certain : goal.returns-clause-certain
returns-clause-certain g c =
    certain_so (words_of g.E.Engine.stands_for g.E.Engine.keeps) (ruled c.self.inside.limits c.with-self-inside.result.labels c.self.inside.ends) c.with-self-inside.result.parts c.judge_part-lines.result.0 c.judge_part-lines.new.checker c.judge_part-lines.result.1 (invariant_of-self-2 g c).so

pub returns-clause-going_on : goal.returns-clause-going_on
returns-clause-going_on g c =
    open_told (words_of g.E.Engine.stands_for g.E.Engine.keeps) (ruled c.self.inside.limits c.with-self-inside.result.labels c.self.inside.ends) c.with-self-inside.result.parts c.judge_part-lines.result.0 c.judge_part-lines.new.checker c.judge_part-lines.result.1
    c.is_told-2.result c.is_told-2.ensures.going_on (invariant_of-self-2 g c).so

pub returns-clause-within : goal.returns-clause-within
returns-clause-within g c =
    lines_told (words_of g.E.Engine.stands_for g.E.Engine.keeps) (ruled c.self.inside.limits c.with-self-inside.result.labels c.self.inside.ends) c.with-self-inside.result.parts c.judge_part-lines.result.0 c.judge_part-lines.new.checker c.judge_part-lines.result.1
    c.is_told-2.result c.is_told-2.ensures.going_on (invariant_of-self-2 g c).so c.judge_part-lines.ensures.few c.self.inside.limits.most_lines
