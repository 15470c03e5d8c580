-- A usual access changes nothing but the number of events: `Accesses` says so of the tables.
use Rattle.std.proofs.Common.{sym, subst}
use Rattle.aero_shape.specs.States.{Tables}
use Rattle.aero_shape.specs.Standing.{StandsFor}
use Rattle.aero_shape.specs.Told.{IsUsualAccess}
use Rattle.aero_shape.proofs.Accesses.{access_stands, access_told}
use Rattle.aero_shape.proofs.shape.Shape.admit_access.Goals as goal

pub returns-clause-told : goal.returns-clause-told
returns-clause-told c h exempt s =
    let before : Tables = record { threads = c.self.inside.threads.items; locks = c.self.inside.locks.items; exempt = c.self.inside.exempt.items; admitted = c.self.inside.admitted } in
    let usual : IsUsualAccess before.threads c.args.event.now c.in_ok-kind.kind = subst (λ xs. IsUsualAccess xs c.args.event.now c.in_ok-kind.kind) c.deref.ensures.value c.in_ok-kind.ensures.told in
    access_told before c.args.event.now c.in_ok-kind.kind usual exempt h (subst (λ v. StandsFor v h) (sym c.self.view_is) s)

pub returns-clause-some : goal.returns-clause-some
returns-clause-some c h exempt s =
    let before : Tables = record { threads = c.self.inside.threads.items; locks = c.self.inside.locks.items; exempt = c.self.inside.exempt.items; admitted = c.self.inside.admitted } in
    let usual : IsUsualAccess before.threads c.args.event.now c.in_ok-kind.kind = subst (λ xs. IsUsualAccess xs c.args.event.now c.in_ok-kind.kind) c.deref.ensures.value c.in_ok-kind.ensures.told in
    access_stands before c.args.event.now c.in_ok-kind.kind usual exempt h (subst (λ v. StandsFor v h) (sym c.self.view_is) s)
