use Rattle.std.proofs.Common.{◌++◌, ◌∙◌, length, append-nil, sym, ap, eqb-true}
use Rattle.std.specs.Prelude.{flat_map}
use Rattle.aero_report.specs.Shown.{shown_character}
use Rattle.aero_report.proofs.Cuts.{no_cut}
use Rattle.aero_report.proofs.shown.append_shown.Goals as goal

-- nothing is left, so all is added
pub returns : goal.returns
returns c =
    let text = c.loop-rest.text.items in
    let none = no_cut c.loop-rest.rest.now (eqb-true (length c.loop-rest.rest.now) 0 (sym c.is_empty.ensures ∙ c.loop-rest-test.false)) in
    sym (append-nil text) ∙ sym (ap (λ left. text ++ flat_map (shown_character c.args.ends_stay) left) none) ∙ c.loop-rest.invariant
