use Rattle.std.proofs.Common.{◌+◌, ◌≤◌, min, length, map, Some, option_map, refl, sym, ◌∙◌, ap, subst, arith}
use Rattle.std.specs.Prelude.{is_some}
use Rattle.std.proofs.lemmas.Option.{slice_get_read}
use Rattle.aero_grammar.specs.Reading.{Reading, IsReading, after_lines}
use Rattle.aero_verdict.specs.Actors.{named_on}
use Rattle.aero_verdict.specs.Parts.{greatest_number}
use Rattle.aero_verdict.proofs.OnLines.{none_at_first, found_in, none_where_faulty, none_still, none_at_all, told_none, told_some}
use Rattle.aero_verdict.proofs.on_line.spot_on.Goals as goal

pub loop-part-init : goal.loop-part-init
loop-part-init c = none_at_first c.args.parts.now c.args.line

pub returns-in-Some : goal.returns-in-Some
returns-in-Some c =
    let small : c.args.line ≤ greatest_number = omega arith in
    let part = c.part-item.result in
    let at = slice_get_read c.args.parts.now (length c.args.parts.now) c.loop-part.part-index part refl c.loop-part-test.true c.part-item.is in
    let here = named_on c.args.line (map (after_lines c.loop-part.before) part.events) in
    c.in-Some.ensures
    ∙ ap (option_map Some) (found_in c.args.parts.now c.loop-part.part-index c.loop-part.before c.args.line small c.loop-part.invariant part at (subst IsReading c.part.view_is c.part.invariant.reading) (told_some here _ c.in-Some.ensures))

pub returns-then-is_some : goal.returns-then-is_some
returns-then-is_some c =
    let small : c.args.line ≤ greatest_number = omega arith in
    let part = c.part-item.result in
    let at = slice_get_read c.args.parts.now (length c.args.parts.now) c.loop-part.part-index part refl c.loop-part-test.true c.part-item.is in
    let here = named_on c.args.line (map (after_lines c.loop-part.before) part.events) in
    ap (option_map Some)
    (none_where_faulty c.args.parts.now c.loop-part.part-index c.loop-part.before c.args.line small c.loop-part.invariant part at (subst IsReading c.part.view_is c.part.invariant.reading) (told_none here c.in_default.ensures)
    (ap (λ (r : Reading). is_some r.fault) (sym c.part.view_is) ∙ sym c.is_some.ensures ∙ c.if-is_some.true))

pub loop-part-preserved : goal.loop-part-preserved
loop-part-preserved c =
    let small : c.args.line ≤ greatest_number = omega arith in
    let part = c.part-item.result in
    let at = slice_get_read c.args.parts.now (length c.args.parts.now) c.loop-part.part-index part refl c.loop-part-test.true c.part-item.is in
    let here = named_on c.args.line (map (after_lines c.loop-part.before) part.events) in
    none_still c.args.parts.now c.loop-part.part-index c.loop-part.before c.args.line small c.loop-part.invariant part at (subst IsReading c.part.view_is c.part.invariant.reading) (told_none here c.in_default.ensures)
    (ap (λ (r : Reading). is_some r.fault) (sym c.part.view_is) ∙ sym c.is_some.ensures ∙ c.if-is_some.false) c.saturating_add-before.result
    (c.saturating_add-before.ensures ∙ ap (λ (r : Reading). min (c.loop-part.before + r.lines) greatest_number) c.part.view_is)

pub returns : goal.returns
returns c =
    let small : c.args.line ≤ greatest_number = omega arith in
    ap (option_map Some) (none_at_all c.args.parts.now c.loop-part.part-index c.loop-part.before c.args.line small c.loop-part.invariant c.loop-part-test.false)
