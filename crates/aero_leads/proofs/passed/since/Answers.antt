use Rattle.std.proofs.Common.{sym, ◌∙◌}
use Rattle.aero_leads.proofs.Rising.{none_since}
use Rattle.aero_leads.proofs.passed.since.Goals as goal

pub returns-then-comes_before : goal.returns-then-comes_before
returns-then-comes_before c =
    c.new.ensures.items ∙ sym (none_since c.args.t c.args.place c.args.row.now c.requires.single (λ w p there. c.comes_before.ensures c.if-comes_before.true p (c.requires.high w p there)))
