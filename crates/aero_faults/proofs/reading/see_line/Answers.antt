use Rattle.std.proofs.Common.{◌≡◌, Ok, sym, subst}
use Rattle.aero_grammar.specs.Meaning.{Meaning, Means, TellsMeaning, meaning}
use Rattle.aero_faults.specs.Looks.{SeesLine}
use Rattle.aero_faults.proofs.reading.see_line.Goals as goal

pub returns-clause-seen : goal.returns-clause-seen
returns-clause-seen c = λ before was.
    let means : meaning c.args.line.now ≡ Means c.in-Some.event = subst (λ o. TellsMeaning (Ok o) (meaning c.args.line.now)) c.in-Some.is c.in-Ok.ensures in
    subst (λ (m : Meaning). SeesLine c.in_ok-seen.seen before c.args.number m) (sym means) (c.in_ok-seen.ensures.seen before was)
