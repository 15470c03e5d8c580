use Rattle.std.proofs.Common.{◌≡◌, length, sym, ◌∙◌, arith, eq-eqb}
use Rattle.std.proofs.lemmas.Bool.{eqb-true}
use Rattle.aero_names.proofs.Cuts.{no_names, some_names}
use Rattle.aero_names.proofs.list.NameList.is_empty.Goals as goal

pub returns : goal.returns
returns c = (
  λ yes.
      let none : length c.self.inside.ends.items ≡ 0 = omega (arith, eqb-true _ _ (sym c.is_empty.ensures ∙ yes)) in
      sym c.self.view_is ∙ no_names c.self.inside.bytes.items 0 c.self.inside.ends.items none,
  λ same.
      let none : length c.self.inside.ends.items ≡ 0 = some_names c.self.inside.bytes.items 0 c.self.inside.ends.items (c.self.view_is ∙ same) in
      c.is_empty.ensures ∙ eq-eqb _ _ (omega (arith, none)),
)
