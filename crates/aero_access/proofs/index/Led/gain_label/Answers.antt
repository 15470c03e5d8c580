use Rattle.std.proofs.Common.{arith, ◌≡◌, refl, sym, ◌∙◌}
use Rattle.std.specs.Prelude.{false}
use Rattle.aero_access.proofs.Visits.{gains_pushed}
use Rattle.aero_access.proofs.index.Led.gain_label.Goals as goal

pub returns-in_ok-push : goal.returns-in_ok-push
returns-in_ok-push c =
    let wasn : c.leads_to-then-leads_to.result ≡ false = let t = c.if-not-leads_to.true in grind arith in
    gains_pushed c.args.self.now _ c.args.place c.args.was c.args.n
    (sym c.leads_to.ensures ∙ c.if-leads_to.true) (sym c.leads_to-then-leads_to.ensures ∙ wasn)
    refl refl c.in_ok-push.ensures.items
