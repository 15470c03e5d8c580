use Rattle.std.proofs.Common.{ℕ, List, sym, subst}
use Rattle.std.specs.Prelude.{IfSome}
use Rattle.aero_model.specs.Named.{Named}
use Rattle.aero_faults.specs.Hindrances.{Hinders}
use Rattle.aero_faults.specs.Searches.{HasSeen}
use Rattle.aero_faults.proofs.Explains.{explains}
use Rattle.aero_faults.proofs.search.Search.finish.Goals as goal

pub returns-clause-hinders : goal.returns-clause-hinders
returns-clause-hinders c =
    subst (λ found. IfSome found (λ hindrance. (before : List (ℕ × Named)) → HasSeen c.args.self before → Hinders before c.args.self.event c.args.self.fault hindrance))
    (sym c.hindrance-hindrance.ensures) (explains c.args.self.event c.args.self.fault c.args.self.seen)
