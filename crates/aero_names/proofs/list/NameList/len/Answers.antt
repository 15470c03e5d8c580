use Rattle.std.proofs.Common.{◌≡◌, length, sym, ◌∙◌, ap, arith}
use Rattle.aero_names.proofs.Cuts.{length-names_from}
use Rattle.aero_names.proofs.list.NameList.len.Goals as goal

pub returns : goal.returns
returns c =
    let len : c.len.result ≡ length c.self.inside.ends.items = omega (arith, c.len.ensures) in
    len ∙ (sym (length-names_from c.self.inside.bytes.items 0 c.self.inside.ends.items) ∙ ap length c.self.view_is)
