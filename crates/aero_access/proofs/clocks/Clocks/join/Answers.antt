use Rattle.std.proofs.Common.{sym, subst, ◌≡◌, length, refl, arith}
use Rattle.std.proofs.lemmas.List.{with_items_is}
use Rattle.aero_model.specs.declared.numbered.What.TheVariants.{Join}
use Rattle.aero_access.proofs.Standings.{follows, answered}
use Rattle.aero_access.specs.Heeds.{AreHeeded}
use Rattle.aero_access.specs.StateWords.{state_in}
use Rattle.aero_access.proofs.clocks.Clocks.join.Goals as goal

pub returns-clause-follows : goal.returns-clause-follows
returns-clause-follows c =
    let kept : length c.join.new.threads ≡ c.start.new.self.threads.len = omega (arith, c.join.auto.threads, c.deref_mut.ensures.len) in
    follows c.args.self.now c.start.new.self _ c.finish.new.self c.deref_mut.result.now c.join.new.threads _ c.args.t (Join c.args.u) c.finish.result c.in_ok-closes.closes
    c.in_ok-start.ensures.ok c.deref_mut.ensures.value (with_items_is c.start.new.self.threads c.join.new.threads kept) refl c.in_ok-closes.ensures.moves
    c.finish.ensures.told c.finish.ensures.untold c.finish.ensures.finished

pub returns-clause-answers : goal.returns-clause-answers
returns-clause-answers c =
    let kept : length c.join.new.threads ≡ c.start.new.self.threads.len = omega (arith, c.join.auto.threads, c.deref_mut.ensures.len) in
    answered c.args.self.now c.start.new.self _ c.finish.new.self c.deref_mut.result.now c.join.new.threads _ c.args.t c.finish.result c.in_ok-closes.closes
    c.in_ok-start.ensures.ok c.deref_mut.ensures.value (with_items_is c.start.new.self.threads c.join.new.threads kept) refl c.requires.closed c.join.ensures.same
    c.finish.ensures.told c.finish.ensures.closed c.finish.ensures.untold c.finish.ensures.finished

pub join-requires-clause-heeded : goal.join-requires-clause-heeded
join-requires-clause-heeded c = subst (λ xs. AreHeeded (state_in xs c.start.new.self.table)) (sym c.deref_mut.ensures.value) c.start.new.self.heeded

pub invariant_of-self-clause-heeded : goal.invariant_of-self-clause-heeded
invariant_of-self-clause-heeded c =
    let kept : length c.join.new.threads ≡ c.start.new.self.threads.len = omega (arith, c.join.auto.threads, c.deref_mut.ensures.len) in
    subst (λ xs. AreHeeded (state_in xs c.start.new.self.table)) (sym (with_items_is c.start.new.self.threads c.join.new.threads kept)) c.join.ensures.heeded
