use Rattle.std.proofs.Common.{sym, subst}
use Rattle.aero_clock.specs.Pairs.{IsRising, HasNoZero}
use Rattle.aero_clock.specs.Numbers.{Lists}
use Rattle.aero_clock.specs.declared.clock.Clock.{Clock}
use Rattle.aero_clock.proofs.Lists.{number_some, number_found}
use Rattle.aero_clock.proofs.clock.Clock.pairs.Goals as goal

listed : (clock : Clock) → IsRising clock.pairs.items → HasNoZero clock.pairs.items → Lists clock.pairs.items clock
listed clock rising nonzero = record {
  rising = rising;
  numbers = λ i p at. (nonzero i p at, sym (number_some clock.pairs.items i p rising at));
  all = λ t some. number_found clock.pairs.items t some;
}

pub returns : goal.returns
returns c = subst (λ ps. Lists ps c.args.self.now) (sym c.deref.ensures.value) (listed c.args.self.now c.args.self.now.rising c.args.self.now.nonzero)
