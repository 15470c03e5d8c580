use Rattle.std.proofs.Common.{◌<◌, ℕ, List, subst, sym, arith}
use Rattle.aero_clock.specs.Pairs.{number_in, Covers, IsRising, HasNoZero}
use Rattle.aero_clock.proofs.Lists.{number_some}
use Rattle.aero_clock.proofs.clock.Clock.join.Goals as goal

covered : (ps qs : List (ℕ × ℕ)) → IsRising qs → HasNoZero qs → ((t : ℕ) → 0 < number_in qs t → 0 < number_in ps t) → Covers ps qs
covered ps qs rising nonzero all = record { at = λ j q found. all q.0 (omega (arith, nonzero j q found, number_some qs j q rising found)) }

pub returns-clause-room : goal.returns-clause-room
returns-clause-room c = λ room. c.join.ensures.room (subst (Covers c.args.self.now.pairs.items) (sym c.deref.ensures.value) (covered c.args.self.now.pairs.items c.args.other.now.pairs.items c.args.other.now.rising c.args.other.now.nonzero room))
