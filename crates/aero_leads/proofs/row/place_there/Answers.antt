use Rattle.std.proofs.Common.{get_or, sym}
use Rattle.std.proofs.lemmas.Option.{slice_get-get_or}
use Rattle.aero_leads.proofs.Leasts.{lead}
use Rattle.aero_leads.proofs.Singles.{lead_found}
use Rattle.aero_leads.proofs.row.place_there.Goals as goal

pub returns : goal.returns
returns c = sym (lead_found c.args.row.now c.args.w c.args.at (get_or c.args.row.now c.args.at (lead 0 0)) (slice_get-get_or c.args.row.now c.args.at (lead 0 0) c.requires.found.0) c.requires.found.1 c.requires.single).1
