use Rattle.std.proofs.Common.{sym, subst, ◌≡◌, length, refl, arith}
use Rattle.std.proofs.lemmas.List.{with_items_is}
use Rattle.aero_model.specs.declared.numbered.What.TheVariants.{Read}
use Rattle.aero_access.proofs.Standings.{follows, answered}
use Rattle.aero_access.specs.Heeds.{AreHeeded}
use Rattle.aero_access.specs.StateWords.{state_in}
use Rattle.aero_access.proofs.clocks.Clocks.read.Goals as goal

pub returns-clause-follows : goal.returns-clause-follows
returns-clause-follows c =
    let kept : length c.read.new.threads ≡ c.start.new.self.threads.len = omega (arith, c.read.auto.threads, c.deref_mut.ensures.len) in
    follows c.args.self.now c.start.new.self _ c.finish.new.self c.deref_mut.result.now c.read.new.threads c.args.t c.args.t (Read c.args.x) c.finish.result c.in_ok-closes.closes
    c.in_ok-start.ensures.ok c.deref_mut.ensures.value (with_items_is c.start.new.self.threads c.read.new.threads kept) refl c.in_ok-closes.ensures.moves
    c.finish.ensures.told c.finish.ensures.untold c.finish.ensures.finished

pub read-requires-clause-heeded : goal.read-requires-clause-heeded
read-requires-clause-heeded c = subst (λ xs. AreHeeded (state_in xs c.start.new.self.table)) (sym c.deref_mut.ensures.value) c.start.new.self.heeded

pub invariant_of-self-clause-heeded : goal.invariant_of-self-clause-heeded
invariant_of-self-clause-heeded c =
    let kept : length c.read.new.threads ≡ c.start.new.self.threads.len = omega (arith, c.read.auto.threads, c.deref_mut.ensures.len) in
    subst (λ xs. AreHeeded (state_in xs c.read.new.table)) (sym (with_items_is c.start.new.self.threads c.read.new.threads kept)) c.read.ensures.heeded

pub returns-clause-answers : goal.returns-clause-answers
returns-clause-answers c =
    let kept : length c.read.new.threads ≡ c.start.new.self.threads.len = omega (arith, c.read.auto.threads, c.deref_mut.ensures.len) in
    answered c.args.self.now c.start.new.self _ c.finish.new.self c.deref_mut.result.now c.read.new.threads _ c.args.t c.finish.result c.in_ok-closes.closes
    c.in_ok-start.ensures.ok c.deref_mut.ensures.value (with_items_is c.start.new.self.threads c.read.new.threads kept) refl c.requires c.read.ensures.same
    c.finish.ensures.told c.finish.ensures.closed c.finish.ensures.untold c.finish.ensures.finished
