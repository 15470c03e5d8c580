use Rattle.std.proofs.Common.{◌∙◌, refl, sym, ap, arith}
use Rattle.std.specs.Prelude.{is_some}
use Rattle.aero_grammar.specs.Reading.{Reading}
use Rattle.aero_intake.proofs.Surveyed.{lines_counted, lines_stay}
use Rattle.aero_intake.proofs.survey.Survey.add_lines.Goals as goal

pub returns-then-not-self-clause-counted : goal.returns-then-not-self-clause-counted
returns-then-not-self-clause-counted c = λ parts is.
    lines_counted parts c.args.part.now c.args.self.now _ is c.if-not-self.true (omega (arith, c.saturating_add-self.ensures, ap (λ (r : Reading). r.lines) c.part.view_is))
    (c.is_some-self.ensures ∙ ap (λ (r : Reading). is_some r.fault) c.part.view_is)

pub returns-else-not-self-clause-counted : goal.returns-else-not-self-clause-counted
returns-else-not-self-clause-counted c = λ parts is.
    lines_stay parts c.args.part.now c.args.self.now _ is c.if-not-self.false refl refl
