use Rattle.std.proofs.Common.{◌∙◌, ap, sym}
use Rattle.std.specs.Prelude.{is_some}
use Rattle.aero_leads.specs.Indexed.{place_of}
use Rattle.aero_leads.specs.Kept.{least_in}
use Rattle.aero_leads.proofs.Leasts.{found_some, indexed_lowered}
use Rattle.aero_leads.proofs.Listings.{listed_lowered}
use Rattle.aero_leads.proofs.row.lower.Goals as goal

pub returns-clause-listed : goal.returns-clause-listed
returns-clause-listed c =
    listed_lowered c.args.row.now.items c.lower_at.new.row.items c.args.led.now c.args.o c.args.opener c.args.place
    (ap (λ xs. is_some (least_in xs c.args.opener)) (sym c.deref.ensures.value) ∙ found_some c.deref.result.now c.args.opener c.find.result c.find.ensures (ap is_some c.in-Some.is)) c.lower_at.ensures.lowers

pub returns-clause-indexed : goal.returns-clause-indexed
returns-clause-indexed c =
    indexed_lowered c.args.row.now.items c.lower_at.new.row.items (place_of c.args.led.now.index) c.args.opener c.args.place
    (ap (λ xs. is_some (least_in xs c.args.opener)) (sym c.deref.ensures.value) ∙ found_some c.deref.result.now c.args.opener c.find.result c.find.ensures (ap is_some c.in-Some.is)) c.lower_at.ensures.lowers c.lower_at.ensures.openers c.requires
