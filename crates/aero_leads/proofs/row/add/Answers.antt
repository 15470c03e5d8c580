use Rattle.std.proofs.Common.{◌∙◌, ◌==◌, ap, sym, subst, arith, if◌then◌else◌}
use Rattle.aero_leads.specs.declared.index.Index.{Index}
use Rattle.aero_leads.specs.Indexed.{place_of}
use Rattle.aero_leads.specs.Kept.{least_in}
use Rattle.aero_leads.specs.Single.{IsSingle}
use Rattle.aero_leads.proofs.Leasts.{lead, least_push, indexed_added}
use Rattle.aero_leads.proofs.Listings.{grows_noted, noted_there, listed_added}
use Rattle.aero_leads.proofs.Singles.{single_pushed}
use Rattle.aero_leads.proofs.row.add.Goals as goal

pub returns-clause-row : goal.returns-clause-row
returns-clause-row c = λ w. ap (λ xs. least_in xs w) c.in_ok-push.ensures.items ∙ least_push c.args.row.now.items (lead c.args.opener c.args.place) w

pub returns-clause-listed : goal.returns-clause-listed
returns-clause-listed c =
    listed_added c.args.row.now.items c.push.new.self.items c.args.led.now c.note.new.led c.args.o c.args.opener c.args.place
    (grows_noted c.args.led.now c.note.new.led c.args.opener c.args.o c.in_ok-note.ensures.noted)
    (noted_there c.args.led.now c.note.new.led c.args.opener c.args.o c.in_ok-note.ensures.noted)
    (λ w. ap (λ xs. least_in xs w) c.in_ok-push.ensures.items ∙ least_push c.args.row.now.items (lead c.args.opener c.args.place) w)

pub returns-clause-indexed : goal.returns-clause-indexed
returns-clause-indexed c =
    indexed_added c.args.row.now.items c.push.new.self.items (lead c.args.opener c.args.place) c.len-2.result (place_of c.args.led.now.index) (place_of c.enter.new.index)
    c.in_ok-push.ensures.items (omega (arith, c.len-2.ensures, c.args.row.now.ok.0))
    (λ v. c.in_ok-enter.ensures v ∙ ap (λ (index : Index). if v == c.args.opener then c.len-2.result else place_of index v) c.note.ensures.index)

pub returns-clause-single : goal.returns-clause-single
returns-clause-single c = λ none single. subst IsSingle (sym c.in_ok-push.ensures.items) (single_pushed c.args.row.now.items (lead c.args.opener c.args.place) none single)
