use Rattle.std.proofs.Common.{◌∙◌, ap, sym, subst}
use Rattle.std.specs.Prelude.{◌==◌}
use Rattle.std.proofs.lemmas.Bool.{cond-false, ne_eqb}
use Rattle.aero_leads.specs.Kept.{least_in}
use Rattle.aero_leads.specs.Single.{IsSingle}
use Rattle.aero_leads.proofs.Leasts.{lead, least_push}
use Rattle.aero_leads.proofs.Singles.{single_pushed}
use Rattle.aero_leads.proofs.row.put_lead.Goals as goal

pub returns-clause-row : goal.returns-clause-row
returns-clause-row c = λ w. ap (λ xs. least_in xs w) c.in_ok-push.ensures.items ∙ least_push c.args.row.now.items (lead c.args.opener c.args.place) w

pub returns-clause-others : goal.returns-clause-others
returns-clause-others c = λ w ne. ap (λ xs. least_in xs w) c.in_ok-push.ensures.items ∙ least_push c.args.row.now.items (lead c.args.opener c.args.place) w ∙ cond-false (c.args.opener == w) _ _ (ne_eqb c.args.opener w (λ e. ne (sym e)))

pub returns-clause-single : goal.returns-clause-single
returns-clause-single c = λ single. subst IsSingle (sym c.in_ok-push.ensures.items) (single_pushed c.args.row.now.items (lead c.args.opener c.args.place) c.requires single)
