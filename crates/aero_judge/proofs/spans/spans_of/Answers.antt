use Rattle.std.proofs.Common.{◌<◌, length, sym, subst}
use Rattle.std.specs.Prelude.{All}
use Rattle.aero_witness.proofs.Starting.{all_within}
use Rattle.aero_judge.proofs.spans.spans_of.Goals as goal

pub lasts_of-requires-clause-within : goal.lasts_of-requires-clause-within
lasts_of-requires-clause-within c =
    subst (λ fs. All (λ f. f < length fs) fs) (sym c.deref.ensures.value) (all_within c.args.events.now c.args.transactions.now.firsts.items c.requires.of.firsts)
