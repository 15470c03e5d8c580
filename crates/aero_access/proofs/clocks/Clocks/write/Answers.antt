use Rattle.std.proofs.Common.{sym, subst, ◌≡◌, length, refl, arith}
use Rattle.std.proofs.lemmas.List.{with_items_is}
use Rattle.aero_model.specs.declared.numbered.What.TheVariants.{Write}
use Rattle.aero_access.proofs.Standings.{follows, answered}
use Rattle.aero_access.specs.Heeds.{AreHeeded}
use Rattle.aero_access.specs.StateWords.{state_in}
use Rattle.aero_access.proofs.clocks.Clocks.write.Goals as goal

pub returns-clause-follows : goal.returns-clause-follows
returns-clause-follows c =
    let kept : length c.write.new.threads ≡ c.start.new.self.threads.len = omega (arith, c.write.auto.threads, c.deref_mut.ensures.len) in
    follows c.args.self.now c.start.new.self _ c.finish.new.self c.deref_mut.result.now c.write.new.threads c.args.t c.args.t (Write c.args.x) c.finish.result c.in_ok-closes.closes
    c.in_ok-start.ensures.ok c.deref_mut.ensures.value (with_items_is c.start.new.self.threads c.write.new.threads kept) refl c.in_ok-closes.ensures.moves
    c.finish.ensures.told c.finish.ensures.untold c.finish.ensures.finished

pub write-requires-clause-heeded : goal.write-requires-clause-heeded
write-requires-clause-heeded c = subst (λ xs. AreHeeded (state_in xs c.start.new.self.table)) (sym c.deref_mut.ensures.value) c.start.new.self.heeded

pub invariant_of-self-clause-heeded : goal.invariant_of-self-clause-heeded
invariant_of-self-clause-heeded c =
    let kept : length c.write.new.threads ≡ c.start.new.self.threads.len = omega (arith, c.write.auto.threads, c.deref_mut.ensures.len) in
    subst (λ xs. AreHeeded (state_in xs c.write.new.table)) (sym (with_items_is c.start.new.self.threads c.write.new.threads kept)) c.write.ensures.heeded

pub returns-clause-answers : goal.returns-clause-answers
returns-clause-answers c =
    let kept : length c.write.new.threads ≡ c.start.new.self.threads.len = omega (arith, c.write.auto.threads, c.deref_mut.ensures.len) in
    answered c.args.self.now c.start.new.self _ c.finish.new.self c.deref_mut.result.now c.write.new.threads _ c.args.t c.finish.result c.in_ok-closes.closes
    c.in_ok-start.ensures.ok c.deref_mut.ensures.value (with_items_is c.start.new.self.threads c.write.new.threads kept) refl c.requires c.write.ensures.same
    c.finish.ensures.told c.finish.ensures.closed c.finish.ensures.untold c.finish.ensures.finished
