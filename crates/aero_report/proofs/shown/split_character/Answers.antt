use Rattle.std.proofs.Common.{suc, ◌∷◌, ◌∙◌, one-add, take, drop, sym, ap₂, ap}
use Rattle.aero_report.specs.Shown.{characters}
use Rattle.aero_report.proofs.Cuts.{first_cut}
use Rattle.aero_report.proofs.shown.split_character.Goals as goal

pub returns-clause-first : goal.returns-clause-first
returns-clause-first c =
    let bytes = c.args.bytes.now in
    let size = one-add c.followers-size.result ∙ ap suc c.followers-size.ensures.as_defined in
    first_cut bytes c.requires
    ∙ sym (ap₂ (λ first rest. first ∷ characters rest)
    (c.front_of.ensures ∙ ap (λ k. take k bytes) size)
    (c.behind.ensures ∙ ap (λ k. drop k bytes) size))
