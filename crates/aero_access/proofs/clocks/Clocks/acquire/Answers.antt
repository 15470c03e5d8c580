use Rattle.std.proofs.Common.{sym, subst, ◌≡◌, length, refl, arith}
use Rattle.std.proofs.lemmas.List.{with_items_is}
use Rattle.aero_model.specs.declared.numbered.What.TheVariants.{Acquire}
use Rattle.aero_access.proofs.Standings.{follows, answered}
use Rattle.aero_access.specs.Heeds.{AreHeeded}
use Rattle.aero_access.specs.StateWords.{state_in}
use Rattle.aero_access.proofs.clocks.Clocks.acquire.Goals as goal

pub returns-clause-follows : goal.returns-clause-follows
returns-clause-follows c =
    let kept : length c.acquire.new.threads ≡ c.start.new.self.threads.len = omega (arith, c.acquire.auto.threads, c.deref_mut.ensures.len) in
    follows c.args.self.now c.start.new.self _ c.finish.new.self c.deref_mut.result.now c.acquire.new.threads c.args.t c.args.t (Acquire c.args.l) c.finish.result c.in_ok-closes.closes
    c.in_ok-start.ensures.ok c.deref_mut.ensures.value (with_items_is c.start.new.self.threads c.acquire.new.threads kept) refl c.in_ok-closes.ensures.moves
    c.finish.ensures.told c.finish.ensures.untold c.finish.ensures.finished

pub acquire-requires-clause-heeded : goal.acquire-requires-clause-heeded
acquire-requires-clause-heeded c = subst (λ xs. AreHeeded (state_in xs c.start.new.self.table)) (sym c.deref_mut.ensures.value) c.start.new.self.heeded

pub invariant_of-self-clause-heeded : goal.invariant_of-self-clause-heeded
invariant_of-self-clause-heeded c =
    let kept : length c.acquire.new.threads ≡ c.start.new.self.threads.len = omega (arith, c.acquire.auto.threads, c.deref_mut.ensures.len) in
    subst (λ xs. AreHeeded (state_in xs c.start.new.self.table)) (sym (with_items_is c.start.new.self.threads c.acquire.new.threads kept)) c.acquire.ensures.heeded

pub returns-clause-answers : goal.returns-clause-answers
returns-clause-answers c =
    let kept : length c.acquire.new.threads ≡ c.start.new.self.threads.len = omega (arith, c.acquire.auto.threads, c.deref_mut.ensures.len) in
    answered c.args.self.now c.start.new.self _ c.finish.new.self c.deref_mut.result.now c.acquire.new.threads _ c.args.t c.finish.result c.in_ok-closes.closes
    c.in_ok-start.ensures.ok c.deref_mut.ensures.value (with_items_is c.start.new.self.threads c.acquire.new.threads kept) refl c.requires c.acquire.ensures.same
    c.finish.ensures.told c.finish.ensures.closed c.finish.ensures.untold c.finish.ensures.finished
