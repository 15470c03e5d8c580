use Rattle.std.proofs.Common.{subst}
use Rattle.std.specs.Prelude.{Ok}
use Rattle.aero_names.specs.Listing.{Listing, IsNumbered}
use Rattle.aero_names.proofs.Listings.{at_hint, numbered_known}
use Rattle.aero_names.proofs.names.Names.number_of_bytes.Goals as goal

pub returns-in-Some : goal.returns-in-Some
returns-in-Some c =
    subst (λ (l : Listing). IsNumbered l l c.args.bytes.now (Ok c.in-Some.number)) c.self.view_is
    (numbered_known (record { names = c.self.inside.list; limit = c.self.inside.limit }) c.args.bytes.now c.in-Some.number c.self.invariant.listing c.self.invariant.distinct
    (at_hint c.found_at_head-hash.result.1 c.in-Some.number c.self.inside.list c.args.bytes.now c.in-Some.is c.found_at_head-hash.ensures.number))
