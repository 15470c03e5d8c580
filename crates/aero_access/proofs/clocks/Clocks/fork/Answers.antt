use Rattle.std.proofs.Common.{sym, subst, ◌≡◌, length, refl, arith, false}
use Rattle.std.proofs.lemmas.List.{with_items_is}
use Rattle.aero_model.specs.declared.numbered.What.TheVariants.{Fork}
use Rattle.aero_access.proofs.Standings.{follows}
use Rattle.aero_access.specs.Heeds.{AreHeeded}
use Rattle.aero_access.specs.StateWords.{state_in}
use Rattle.aero_access.proofs.clocks.Clocks.fork.Goals as goal

pub returns-clause-follows : goal.returns-clause-follows
returns-clause-follows c =
    let kept : length c.fork.new.threads ≡ c.start.new.self.threads.len = omega (arith, c.fork.auto.threads, c.deref_mut.ensures.len) in
    follows c.args.self.now c.start.new.self _ c.finish.new.self c.deref_mut.result.now c.fork.new.threads _ c.args.t (Fork c.args.u) c.finish.result false
    c.in_ok-start.ensures.ok c.deref_mut.ensures.value (with_items_is c.start.new.self.threads c.fork.new.threads kept) refl c.in_ok-fork.ensures.moves
    c.finish.ensures.told c.finish.ensures.untold c.finish.ensures.finished

pub fork-requires-clause-heeded : goal.fork-requires-clause-heeded
fork-requires-clause-heeded c = subst (λ xs. AreHeeded (state_in xs c.start.new.self.table)) (sym c.deref_mut.ensures.value) c.start.new.self.heeded

pub invariant_of-self-clause-heeded : goal.invariant_of-self-clause-heeded
invariant_of-self-clause-heeded c =
    let kept : length c.fork.new.threads ≡ c.start.new.self.threads.len = omega (arith, c.fork.auto.threads, c.deref_mut.ensures.len) in
    subst (λ xs. AreHeeded (state_in xs c.start.new.self.table)) (sym (with_items_is c.start.new.self.threads c.fork.new.threads kept)) c.fork.ensures.heeded
