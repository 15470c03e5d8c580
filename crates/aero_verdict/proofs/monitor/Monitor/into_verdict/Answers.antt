use Rattle.std.proofs.Common.{◌≡◌, true, false, subst}
use Rattle.std.specs.Prelude.{OnErr}
use Rattle.aero_verdict.specs.Fed.{Fed}
use Rattle.aero_verdict.proofs.monitor.Monitor.into_verdict.Goals as goal

pub returns-clause-spent : goal.returns-clause-spent
returns-clause-spent g c =
    let m = c.self.inside in
    subst (λ (f : Fed). OnErr c.verdict_of-verdict.result (f.rules.end ≡ false → f.is_spent ≡ true)) c.self.view_is
    (c.verdict_of-verdict.ensures.spent m.fed.labels m.ends m.fed.parts c.self.invariant.so)
