use Rattle.std.proofs.Common.{◌≡◌, List, ℕ, Bool, if◌then◌else◌, [], map, not, sym, ◌∙◌, ap}
use Rattle.std.specs.List.{filter}
use Rattle.aero_model.specs.Exempt.{Listed}
use Rattle.aero_program.specs.Labels.{is_flagged, unflagged, without_flag}
use Rattle.aero_program.proofs.labels.unused_labels.Goals as goal

pub returns-in-Ok : goal.returns-in-Ok
returns-in-Ok c =
    let terms = c.args.terms.now in
    let flags = c.in-Some.begun.flags.items in
    let told : unflagged terms c.args.begun.now ≡ filter (λ label. not (is_flagged terms.rules.labels.labels flags label)) terms.rules.labels.labels =
    ap (λ (b : Bool). if b then [] else without_flag terms.rules.labels.labels c.args.begun.now) (sym c.stop.ensures ∙ c.if-stop.false) ∙ ap (without_flag terms.rules.labels.labels) c.in-Some.is in
    c.in-Ok.ensures ∙ ap (λ (l : Listed). filter (λ label. not (is_flagged l.labels flags label)) l.labels) c.except.ensures ∙ sym told
