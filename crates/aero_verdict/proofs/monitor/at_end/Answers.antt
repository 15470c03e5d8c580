use Rattle.std.proofs.Common.{◌≡◌, true, inl, inr, ◌∙◌, sym, subst}
use Rattle.std.proofs.lemmas.Bool.{cases_Bool}
use Rattle.aero_engine.specs.Given.{words_of}
use Rattle.aero_verdict.specs.Ending.{HasEnded}
use Rattle.aero_verdict.specs.Monitored.{TellsFed}
use Rattle.aero_model.specs.Terms.{ruled}
use Rattle.aero_verdict.proofs.Feeding.{behind_at_end, can_be_told_ended, ends_so, faultless_ended, fed_events, on_err_any, tells_ended, tells_too_many, told_stopped}
use Rattle.aero_verdict.proofs.monitor.at_end.Goals as goal

pub returns-then-lines-limits-clause-tells : goal.returns-then-lines-limits-clause-tells
returns-then-lines-limits-clause-tells g c = λ labels ends fed so.
    subst (TellsFed (words_of g.E.Engine.stands_for g.E.Engine.keeps) (ruled c.args.limits.now labels ends) fed c.args.checker.now) (sym c.too_many_lines.ensures)
    (tells_too_many (words_of g.E.Engine.stands_for g.E.Engine.keeps) (ruled c.args.limits.now labels ends) fed c.args.lines c.args.checker.now so c.if-lines-limits.true)

pub admit_last_ends-requires-clause-next : goal.admit_last_ends-requires-clause-next
admit_last_ends-requires-clause-next g c =
    let r = c.requires in
    let words = words_of g.E.Engine.stands_for g.E.Engine.keeps in
    let rules = ruled c.args.limits.now r.0 r.1 in
    (rules, fed_events words rules r.2 c.args.lines c.args.checker.now r.3, behind_at_end words rules r.2 c.args.lines c.args.checker.now r.3)

pub returns-in_err-line-clause-spent : goal.returns-in_err-line-clause-spent
returns-in_err-line-clause-spent g c = λ labels ends fed so.
    let rules = ruled c.args.limits.now labels ends in
    let words = words_of g.E.Engine.stands_for g.E.Engine.keeps in
    on_err_any c.from_residual.result (ends ≡ true) (elim (cases_Bool ends) [
      | inl on ↦ on
      | inr off ↦ absurd (let none = c.admit_last_ends.ensures.none (ends_so words rules fed c.args.lines c.args.checker.now so ∙ off) in let err = c.in_err-line.was in cc)
    ])

pub stopped_at-requires : goal.stopped_at-requires
stopped_at-requires g c =
    let r = c.requires in
    let words = words_of g.E.Engine.stands_for g.E.Engine.keeps in
    let rules = ruled c.args.limits.now r.0 r.1 in
    can_be_told_ended words rules r.2 c.args.lines c.args.checker.now r.3 c.if-lines-limits.false c.admit_last_ends.new.self c.in-Some.line c.in-Some.stop
    (subst (HasEnded words rules c.args.checker.now c.admit_last_ends.new.self c.args.lines (fed_events words rules r.2 c.args.lines c.args.checker.now r.3)) c.in-Some.is
    (c.in_ok-line.ensures.told rules (fed_events words rules r.2 c.args.lines c.args.checker.now r.3) (behind_at_end words rules r.2 c.args.lines c.args.checker.now r.3)))

pub returns-in-Some-clause-tells : goal.returns-in-Some-clause-tells
returns-in-Some-clause-tells g c = λ labels ends fed so.
    let words = words_of g.E.Engine.stands_for g.E.Engine.keeps in
    let rules = ruled c.args.limits.now labels ends in
    told_stopped words rules fed c.args.lines c.args.checker.now so c.if-lines-limits.false c.admit_last_ends.new.self c.in-Some.line c.in-Some.stop
    (subst (HasEnded words rules c.args.checker.now c.admit_last_ends.new.self c.args.lines (fed_events words rules fed c.args.lines c.args.checker.now so)) c.in-Some.is
    (c.in_ok-line.ensures.told rules (fed_events words rules fed c.args.lines c.args.checker.now so) (behind_at_end words rules fed c.args.lines c.args.checker.now so)))
    c.stopped_at.result c.stopped_at.ensures.told c.stopped_at.ensures.own_fault c.stopped_at.ensures.wrong

pub returns-in-Some-clause-spent : goal.returns-in-Some-clause-spent
returns-in-Some-clause-spent g c = λ labels ends fed so.
    let rules = ruled c.args.limits.now labels ends in
    let words = words_of g.E.Engine.stands_for g.E.Engine.keeps in
    on_err_any c.stopped_at.result (ends ≡ true) (elim (cases_Bool ends) [
      | inl on ↦ on
      | inr off ↦ absurd (let none = c.admit_last_ends.ensures.none (ends_so words rules fed c.args.lines c.args.checker.now so ∙ off) in let ok = c.in_ok-line.was in let some = c.in-Some.is in cc)
    ])

pub returns-in-None-clause-tells : goal.returns-in-None-clause-tells
returns-in-None-clause-tells g c = λ labels ends fed so.
    let words = words_of g.E.Engine.stands_for g.E.Engine.keeps in
    let rules = ruled c.args.limits.now labels ends in
    let ended = subst (HasEnded words rules c.args.checker.now c.admit_last_ends.new.self c.args.lines (fed_events words rules fed c.args.lines c.args.checker.now so)) c.in-None.is
    (c.in_ok-line.ensures.told rules (fed_events words rules fed c.args.lines c.args.checker.now so) (behind_at_end words rules fed c.args.lines c.args.checker.now so)) in
    tells_ended words rules fed c.args.lines c.args.checker.now so c.if-lines-limits.false c.admit_last_ends.new.self ended c.faultless.result
    (c.faultless.ensures.verdict fed rules (faultless_ended words rules fed c.args.lines c.args.checker.now so c.if-lines-limits.false c.admit_last_ends.new.self ended))
    c.faultless.ensures.own_fault c.faultless.ensures.right
