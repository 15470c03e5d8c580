use Rattle.std.proofs.Common.{Some, ap, sym, ◌∙◌}
use Rattle.std.proofs.lemmas.Option.{slice_get-get_or}
use Rattle.aero_leads.proofs.Leasts.{lowered_found, opener_set}
use Rattle.aero_leads.proofs.Singles.{single_same}
use Rattle.aero_leads.proofs.row.lower_at.Goals as goal

pub returns-clause-lowers : goal.returns-clause-lowers
returns-clause-lowers c =
    lowered_found c.args.row.now.items c.args.at c.args.opener c.args.place c.index.result.now
    (slice_get-get_or c.args.row.now.items c.args.at c.index.result.now c.requires.0 ∙ ap Some (sym c.index.ensures)) c.requires.1 c.min-place.result c.min-place.ensures

pub returns-clause-openers : goal.returns-clause-openers
returns-clause-openers c = λ i. opener_set c.args.row.now.items c.args.at c.args.opener c.min-place.result i c.requires.1

pub returns-clause-single : goal.returns-clause-single
returns-clause-single c = single_same c.args.row.now.items _ (λ i. opener_set c.args.row.now.items c.args.at c.args.opener c.min-place.result i c.requires.1)
