use Rattle.std.proofs.Common.{◌≡◌, true, Option, Vec, Global, sym, subst}
use Rattle.std.specs.Prelude.{is_some, option_map}
use Rattle.aero_model.specs.declared.verdict.Step.{Step}
use Rattle.aero_verdict.specs.Ordered.{has_order}
use Rattle.aero_judge.proofs.full.finding_of.Goals as goal

pub returns-in-None-clause-finding : goal.returns-in-None-clause-finding
returns-in-None-clause-finding c = λ parts rules judged tells.
    let none = subst (λ (steps : Option (Vec Step Global)). is_some (option_map (λ (ss : Vec Step Global). ss.items) steps) ≡ has_order true c.args.verdict) c.in-None.is tells.where_ordered in
    c.finding_shown.ensures.finding parts rules true judged (sym none)
