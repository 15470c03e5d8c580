use Rattle.std.proofs.Common.{◌≡◌, false, subst}
use Rattle.std.specs.Prelude.{Ok}
use Rattle.aero_names.specs.Listing.{Listing, IsNumbered, is_listed}
use Rattle.aero_names.proofs.Listings.{at_hint, numbered_known, numbered_new}
use Rattle.aero_names.proofs.Spreads.{at_none}
use Rattle.aero_names.proofs.names.Names.number_along.Goals as goal

pub returns-in-Some : goal.returns-in-Some
returns-in-Some c =
    subst (λ (l : Listing). IsNumbered l l c.args.name.now (Ok c.in-Some.number)) c.self.view_is
    (numbered_known (record { names = c.self.inside.list; limit = c.self.inside.limit }) c.args.name.now c.in-Some.number c.self.invariant.listing c.self.invariant.distinct
    (at_hint c.find-found.result.0 c.in-Some.number c.self.inside.list c.args.name.now c.in-Some.is c.find-found.ensures.found))

pub returns-in-None : goal.returns-in-None
returns-in-None c =
    let new : is_listed c.args.self.now c.args.name.now ≡ false = subst (λ (l : Listing). is_listed l c.args.name.now ≡ false) c.self.view_is (at_none c.find-found.result.0 c.in-None.is c.find-found.ensures.missed) in
    numbered_new c.number_new.result c.args.self.now c.number_new.new.self c.args.name.now new c.number_new.ensures.number c.number_new.ensures.names c.number_new.ensures.full c.number_new.ensures.err c.number_new.ensures.listing
