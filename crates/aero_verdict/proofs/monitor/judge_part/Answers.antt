use Rattle.std.proofs.Common.{◌+◌, [], ◌∷◌, ◌++◌, min, sym, ◌∙◌, ap, subst}
use Rattle.aero_grammar.specs.Reading.{Reading}
use Rattle.aero_engine.specs.Given.{words_of}
use Rattle.aero_verdict.specs.declared.monitor.State.TheVariants.{Decided}
use Rattle.aero_verdict.specs.Monitored.{FedSo}
use Rattle.aero_verdict.specs.Parts.{greatest_number}
use Rattle.aero_model.specs.Terms.{ruled}
use Rattle.aero_verdict.proofs.Feeding.{wrong_part, right_part, fed_too_many}
use Rattle.aero_verdict.proofs.monitor.judge_part.Goals as goal

pub returns-in-Ok-Some-clause-so : goal.returns-in-Ok-Some-clause-so
returns-in-Ok-Some-clause-so g c = λ fed so.
    wrong_part (words_of g.E.Engine.stands_for g.E.Engine.keeps) (ruled c.args.limits.now c.args.except.now c.args.checker.now.ends) fed c.args.part.now c.args.lines c.args.checker.now c.check_part.new.checker c.in-Ok-Some.field-0 c.in-Ok-Some.verdict c.in-Ok-Some.field-0-is
    c.in-Ok-Some.ensures.told c.in-Ok-Some.ensures.own_fault c.in-Ok-Some.ensures.wrong so

pub returns-then-lines-limits-clause-so : goal.returns-then-lines-limits-clause-so
returns-then-lines-limits-clause-so g c = λ fed so.
    let rules = ruled c.args.limits.now c.args.except.now c.args.checker.now.ends in
    let more = fed ++ c.args.part.now ∷ [] in
    let lines = ap (λ (r : Reading). min (c.args.lines + r.lines) greatest_number) (sym c.part.view_is) ∙ sym c.saturating_add-lines.ensures in
    subst (λ v. FedSo (words_of g.E.Engine.stands_for g.E.Engine.keeps) rules more c.saturating_add-lines.result c.check_part.new.checker (Decided v)) (sym c.too_many_lines.ensures)
    (fed_too_many (words_of g.E.Engine.stands_for g.E.Engine.keeps) rules more c.saturating_add-lines.result c.check_part.new.checker
    (right_part (words_of g.E.Engine.stands_for g.E.Engine.keeps) rules fed c.args.part.now c.args.lines c.args.checker.now c.check_part.new.checker c.in-Ok-None.field-0 c.saturating_add-lines.result c.in-Ok-None.field-0-is c.in-Ok-None.ensures.told lines so)
    c.if-lines-limits.true)

pub returns-clause-so : goal.returns-clause-so
returns-clause-so g c = λ fed so.
    let lines = ap (λ (r : Reading). min (c.args.lines + r.lines) greatest_number) (sym c.part.view_is) ∙ sym c.saturating_add-lines.ensures in
    right_part (words_of g.E.Engine.stands_for g.E.Engine.keeps) (ruled c.args.limits.now c.args.except.now c.args.checker.now.ends) fed c.args.part.now c.args.lines c.args.checker.now c.check_part.new.checker c.in-Ok-None.field-0 c.saturating_add-lines.result c.in-Ok-None.field-0-is
    c.in-Ok-None.ensures.told lines so
