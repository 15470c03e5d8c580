use Rattle.std.proofs.Common.{get_or, length, sym, ◌∙◌}
use Rattle.std.proofs.lemmas.Option.{slice_get-get_or}
use Rattle.aero_leads.proofs.Leasts.{lead}
use Rattle.aero_leads.proofs.Singles.{single_lead, some_first, lead_found}
use Rattle.aero_leads.proofs.row.lead_of.Goals as goal

pub returns-then-row-w : goal.returns-then-row-w
returns-then-row-w c =
    (c.if-row-w.true, single_lead c.args.row.now 0 c.args.w (get_or c.args.row.now 0 (lead 0 0)) (slice_get-get_or c.args.row.now 0 (lead 0 0) (some_first (length c.args.row.now) (sym c.is_empty.ensures ∙ c.if-not-is_empty.true))) c.if-row-w.true (c.requires c.args.w))

pub returns : goal.returns
returns c = lead_found c.args.row.now c.args.w c.in_ok-at.at (get_or c.args.row.now c.in_ok-at.at (lead 0 0)) (slice_get-get_or c.args.row.now c.in_ok-at.at (lead 0 0) c.in_ok-at.ensures.0) c.in_ok-at.ensures.1 c.requires
