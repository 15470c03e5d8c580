use Rattle.std.proofs.Common.{true, sym, ap, subst}
use Rattle.aero_verdict.specs.Explained.{has_cycle, IsCycleOf}
use Rattle.aero_judge.proofs.Explaining.{told_record}
use Rattle.aero_judge.proofs.explained.cycle_in.Goals as goal

pub cycle_of-requires : goal.cycle_of-requires
cycle_of-requires c =
    let (parts, rules, judged) = c.requires in (
      parts,
      rules,
      c.in-Violation.line,
      c.in-Violation.thread,
      told_record parts rules judged.checker c.args.names.now c.args.recorder.now c.args.verdict.now c.in-Violation.line c.in-Violation.thread c.in-Violation.begun
          judged.names judged.engine judged.readings judged.few judged.tells c.in-Violation.is,
    )

pub returns : goal.returns
returns c = λ parts rules judged.
    let recorded = told_record parts rules judged.checker c.args.names.now c.args.recorder.now c.args.verdict.now c.in-Violation.line c.in-Violation.thread c.in-Violation.begun
    judged.names judged.engine judged.readings judged.few judged.tells c.in-Violation.is in (
      sym (ap (has_cycle true) c.in-Violation.is),
      subst (λ v. IsCycleOf parts rules v c.in_ok-cycle.cycle) (sym c.in-Violation.is) (c.in_ok-cycle.ensures parts rules c.in-Violation.line c.in-Violation.thread recorded),
    )
