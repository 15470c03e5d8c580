use Rattle.std.proofs.Common.{◌∙◌, ap, sym, subst}
use Rattle.aero_leads.specs.Kept.{least_in}
use Rattle.aero_leads.specs.Single.{IsSingle}
use Rattle.aero_leads.proofs.Singles.{least_left, single_left}
use Rattle.aero_leads.proofs.row.take_out.Goals as goal

pub returns-clause-dropped : goal.returns-clause-dropped
returns-clause-dropped c = λ w.
    ap (λ xs. least_in xs w) c.swap_remove.ensures.items
    ∙ least_left c.args.row.now.items c.args.at c.args.opener c.swap_remove.result c.requires.found.0 c.requires.found.1 c.requires.single w

pub returns-clause-single : goal.returns-clause-single
returns-clause-single c =
    subst IsSingle (sym c.swap_remove.ensures.items) (single_left c.args.row.now.items c.args.at c.args.opener c.swap_remove.result c.requires.found.0 c.requires.found.1 c.requires.single)
