use Rattle.std.proofs.Common.{ap, sym, ◌∙◌}
use Rattle.std.specs.Prelude.{is_some}
use Rattle.aero_leads.specs.Kept.{least_in}
use Rattle.aero_leads.proofs.Leasts.{found_some, gains_there}
use Rattle.aero_leads.proofs.row.gain.Goals as goal

pub returns-then-is_some-clause-gains : goal.returns-then-is_some-clause-gains
returns-then-is_some-clause-gains c =
    gains_there c.args.row.now.items c.args.opener c.args.place
    (ap (λ xs. is_some (least_in xs c.args.opener)) (sym c.deref.ensures.value) ∙ found_some c.deref.result.now c.args.opener c.find.result c.find.ensures (sym c.is_some.ensures ∙ c.if-is_some.true))
