use Rattle.std.proofs.Common.{◌∙◌, inr, sym, ap}
use Rattle.aero_model.specs.Terms.{Terms}
use Rattle.aero_judge.specs.Judging.{judging_of}
use Rattle.aero_intake.proofs.Decisive.{some_certain_decides}
use Rattle.aero_intake.proofs.alone.SoFar.has_enough.Goals as goal

pub returns-then-is_certain-clause-enough : goal.returns-then-is_certain-clause-enough
returns-then-is_certain-clause-enough c is =
    let j = judging_of c.args.self.now.judge in
    let terms = c.args.terms.now in
    inr (record {
      decisive = some_certain_decides terms j.parts j.terms.rules j.certain (ap (λ (t : Terms). t.rules) c.requires.on) c.is_certain.ensures.certain
          (sym c.is_certain.ensures.told ∙ c.if-is_certain.true);
      labels = c.needs_no_label.ensures is;
    })
