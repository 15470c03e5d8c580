use Rattle.std.proofs.Common.{refl}
use Rattle.std.proofs.lemmas.Bool.{false≢true}
use Rattle.aero_witness.specs.Telling.{visit_of, visits_of}
use Rattle.aero_witness.proofs.Following.{telling_from, following_from, closed_from}
use Rattle.aero_witness.proofs.telling.goes_round.Goals as goal

pub returns-in-Some : goal.returns-in-Some
returns-in-Some c =
    let trace = c.args.events.now in
    let v = visit_of c.args.first in
    let ws = visits_of c.args.rest.now in
    let last = visit_of c.in-Some.last in
    let h = c.in-Some.ensures in
    let closes = c.closes.ensures in (
      (λ t. let e = closes.0 t in telling_from trace v last ws (c.if-not-is_visit.ensures.0 refl) h.0 h.2 e.0 e.1),
      λ telling. closes.1 (closed_from trace v last ws h.2 telling),
    )

pub returns-in-None : goal.returns-in-None
returns-in-None c = (
  (λ t. absurd (false≢true t)),
  λ telling. absurd (c.in-None.ensures (following_from c.args.events.now (visit_of c.args.first) (visits_of c.args.rest.now) telling)),
)
