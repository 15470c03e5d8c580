use Rattle.std.proofs.Common.{◌∙◌, ap, sym, Ok, true, false, arith}
use Rattle.std.proofs.lemmas.Grind.{common_steps}
use Rattle.aero_lines.proofs.Steps.{ends_shut, ends_with}
use Rattle.aero_lines.proofs.cutter.Cutter.finish.Goals.{then-shut-via-then-shut, then-shut-via-else-shut+then-is_empty}
use Rattle.aero_lines.proofs.cutter.Cutter.finish.Goals as goal

pub returns-then-shut-clause-last : goal.returns-then-shut-clause-last
returns-then-shut-clause-last c =
    elim c.then-shut.branch [
      | then-shut-via-then-shut w ↦ ap Ok (ends_shut _ _ c.self.view_is w.if-shut.true)
      | then-shut-via-else-shut+then-is_empty w ↦
          ap Ok (ends_with _ _ _ true c.self.view_is w.if-shut.false c.self.inside.rest.ok.0 (sym w.is_empty.ensures ∙ w.if-is_empty.true))
    ]

pub returns-clause-last : goal.returns-clause-last
returns-clause-last c =
    grind (arith, common_steps)
    ∙ ap Ok (ends_with _ _ _ false c.self.view_is c.if-shut.false c.self.inside.rest.ok.0 (sym c.is_empty.ensures ∙ c.if-is_empty.false))
