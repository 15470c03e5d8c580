use Rattle.std.proofs.Common.{subst, refl, sym, false}
use Rattle.aero_model.specs.declared.numbered.What.TheVariants.{Release}
use Rattle.aero_access.proofs.Standings.{follows}
use Rattle.aero_access.specs.Heeds.{AreHeeded}
use Rattle.aero_access.specs.StateWords.{state_in}
use Rattle.aero_access.proofs.clocks.Clocks.release.Goals as goal

pub returns-clause-follows : goal.returns-clause-follows
returns-clause-follows c =
    follows c.args.self.now c.start.new.self _ c.finish.new.self c.deref.result.now c.deref.result.now c.args.t c.args.t (Release c.args.l) c.finish.result false
    c.in_ok-start.ensures.ok c.deref.ensures.value (sym c.deref.ensures.value) refl c.in_ok-release.ensures.moves
    c.finish.ensures.told c.finish.ensures.untold c.finish.ensures.finished

pub release-requires-clause-heeded : goal.release-requires-clause-heeded
release-requires-clause-heeded c = subst (λ xs. AreHeeded (state_in xs c.start.new.self.table)) (sym c.deref.ensures.value) c.start.new.self.heeded

pub invariant_of-self-clause-heeded : goal.invariant_of-self-clause-heeded
invariant_of-self-clause-heeded c = subst (λ xs. AreHeeded (state_in xs c.release.new.table)) c.deref.ensures.value c.release.ensures.heeded
