use Rattle.std.proofs.Common.{Some, option_map, ◌∙◌, ap, subst, arith}
use Rattle.aero_grammar.specs.Reading.{IsReading}
use Rattle.aero_verdict.proofs.OnLines.{named_within, none_within}
use Rattle.aero_verdict.proofs.on_line.place_in_part.Goals as goal
use Rattle.aero_verdict.proofs.on_line.place_in_part.Goals.{else-before-line-via-then-before-line+else-line-before, else-before-line-via-else-before-line}

pub returns-then-line-before : goal.returns-then-line-before
returns-then-line-before c =
    c.place_in.ensures ∙ ap (option_map Some) (named_within c.args.part.now (subst IsReading c.part.view_is c.part.invariant.reading) c.args.before c.args.line c.if-before-line.true)

pub returns-else-before-line : goal.returns-else-before-line
returns-else-before-line c =
    ap (option_map Some) (none_within c.args.part.now (subst IsReading c.part.view_is c.part.invariant.reading) c.args.before c.args.line (λ less. elim c.else-before-line.branch [
      | else-before-line-via-then-before-line+else-line-before w ↦ (let lines = ap (λ r. r.lines) c.part.view_is in let beyond = w.if-line-before.false in omega (arith, lines, beyond))
      | else-before-line-via-else-before-line w ↦ absurd (let h = w.if-before-line.false in omega (arith, less, h))
    ]))
