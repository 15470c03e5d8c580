use Rattle.std.proofs.Common.{Vec, Global, Option, sym, subst}
use Rattle.std.specs.Prelude.{All, IfOk, IfSome}
use Rattle.aero_order.specs.declared.first.First.{First}
use Rattle.aero_verdict.specs.Limited.{IsNamedThread}
use Rattle.aero_verdict.proofs.serial.steps_told.Goals as goal

pub steps_of-requires : goal.steps_of-requires
steps_of-requires c =
    subst (All (λ (f : First). IsNamedThread c.args.numbering.now f.thread)) (sym c.deref.ensures.value)
    (subst (λ (o : Option (Vec First Global)). IfSome o (λ fs. All (λ (f : First). IsNamedThread c.args.numbering.now f.thread) fs.items)) c.in-Some.is
    (subst (λ r. IfOk r (λ (o : Option (Vec First Global)). IfSome o (λ fs. All (λ (f : First). IsNamedThread c.args.numbering.now f.thread) fs.items))) c.in_ok-firsts.was c.requires))
