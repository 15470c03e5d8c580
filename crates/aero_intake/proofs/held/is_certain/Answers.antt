use Rattle.std.proofs.Common.{◌≡◌, sym, ◌∙◌, ap, subst}
use Rattle.aero_model.specs.Terms.{Terms, to_the_end}
use Rattle.aero_intake.specs.declared.held.Held.{Held}
use Rattle.aero_intake.specs.Held.{parts_in, FitsTerms, IsDecisive}
use Rattle.aero_intake.proofs.Decisive.{some_certain_decides}
use Rattle.aero_intake.proofs.held.is_certain.Goals as goal

pub returns-in-Live-clause-decisive : goal.returns-in-Live-clause-decisive
returns-in-Live-clause-decisive c = λ is_true terms fits.
    let live = c.in-Live.live in
    let fit : live.terms ≡ to_the_end terms = subst (FitsTerms terms) c.in-Live.is fits in
    subst (λ (h : Held). IsDecisive terms (parts_in h)) (sym c.in-Live.is)
    (some_certain_decides terms live.parts live.terms.rules live.certain (ap (λ (t : Terms). t.rules) fit) c.is_certain.ensures.certain (sym c.is_certain.ensures.told ∙ is_true))
