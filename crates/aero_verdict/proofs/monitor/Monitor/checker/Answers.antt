use Rattle.std.proofs.Common.{subst}
use Rattle.std.specs.Prelude.{IfSome}
use Rattle.aero_engine.specs.Given.{words_of}
use Rattle.aero_model.specs.Terms.{ruled}
use Rattle.aero_verdict.specs.Fed.{Fed}
use Rattle.aero_verdict.specs.Monitored.{TellsFed}
use Rattle.aero_verdict.proofs.Feeding.{tells_so_far}
use Rattle.aero_verdict.proofs.monitor.Monitor.checker.Goals as goal

pub returns-clause-tells : goal.returns-clause-tells
returns-clause-tells g c =
    let words = words_of g.E.Engine.stands_for g.E.Engine.keeps in
    let m = c.self.inside in
    subst (λ (f : Fed). IfSome f.certain (TellsFed words f.rules f.parts m.checker)) c.self.view_is
    (tells_so_far words (ruled m.limits m.fed.labels m.ends) m.fed.parts m.lines m.checker m.state c.self.invariant.so)
