use Rattle.std.proofs.Common.{◌∙◌, sym}
use Rattle.aero_telling.proofs.Tellings.{joins_both}
use Rattle.aero_telling.proofs.told.join.Goals as goal

pub returns-in-Some-found : goal.returns-in-Some-found
returns-in-Some-found c =
    joins_both c.args.told.now c.args.found.now c.in-Some.begun c.in-Some-found.more c.join.new.self (sym c.take.ensures.value ∙ c.in-Some.is) c.in-Some-found.is
    c.join.ensures.count c.join.ensures.flags
