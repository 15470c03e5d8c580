use Rattle.std.proofs.Common.{rules}
use Rattle.std.proofs.lemmas.Slice.Eq.{slice_eq-Decides}
use Rattle.aero_pieces.proofs.equal.are_same_events.Goals as goal

pub returns : goal.returns
returns c =
    let decides = slice_eq-Decides (λ a b. search rules) c.args.a.now c.args.b.now c.eq.result c.eq.ensures in
    search rules
