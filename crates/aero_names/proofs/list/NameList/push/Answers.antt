use Rattle.std.proofs.Common.{◌≡◌, ◌+◌, ◌∷◌, ◌++◌, [], length, ◌∙◌, ap, ap₂, arith}
use Rattle.aero_names.specs.Ends.{names_from}
use Rattle.aero_names.proofs.Cuts.{names_pushed, cut_pushed}
use Rattle.aero_names.proofs.list.NameList.push.Goals as goal

pub invariant_of-self-in_default : goal.invariant_of-self-in_default
invariant_of-self-in_default c =
    cut_pushed _ _ _ _ c.args.name.now (c.len-had.result + length c.args.name.now) c.self.invariant (c.in_ok-extend_from_slice.ensures.items) (c.in_default.ensures.items) (omega (arith, c.len-had.ensures)) (omega (arith, c.if-end-most.false)) (omega (arith, c.if-len-most.false, c.len.ensures))

pub returns-clause-ok : goal.returns-clause-ok
returns-clause-ok c =
    let had : c.len-had.result ≡ length c.self.inside.bytes.items = omega (arith, c.len-had.ensures) in
    ap₂ (λ text ends. names_from text 0 ends) c.in_ok-extend_from_slice.ensures.items
    (c.in_default.ensures.items ∙ ap (λ n. c.self.inside.ends.items ++ (n + length c.args.name.now) ∷ []) had)
    ∙ (names_pushed c.self.inside.bytes.items c.args.name.now 0 c.self.inside.ends.items c.self.invariant.rising ∙ ap (λ names. names ++ c.args.name.now ∷ []) c.self.view_is)
