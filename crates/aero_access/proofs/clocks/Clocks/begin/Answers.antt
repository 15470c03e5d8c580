use Rattle.std.proofs.Common.{sym, subst, ◌≡◌, length, refl, arith, false, None}
use Rattle.std.proofs.lemmas.List.{with_items_is}
use Rattle.aero_model.specs.declared.numbered.What.TheVariants.{Begin}
use Rattle.aero_access.proofs.Standings.{follows}
use Rattle.aero_access.specs.Heeds.{AreHeeded}
use Rattle.aero_access.specs.StateWords.{state_in}
use Rattle.aero_access.proofs.clocks.Clocks.begin.Goals as goal

pub returns-clause-follows : goal.returns-clause-follows
returns-clause-follows c =
    let kept : length c.begin.new.threads ≡ c.start.new.self.threads.len = omega (arith, c.begin.auto.threads, c.deref_mut.ensures.len) in
    follows c.args.self.now c.start.new.self _ c.finish.new.self c.deref_mut.result.now c.begin.new.threads c.args.t c.args.t (Begin None) c.finish.result false
    c.in_ok-start.ensures.ok c.deref_mut.ensures.value (with_items_is c.start.new.self.threads c.begin.new.threads kept) refl c.in_ok-begin.ensures.moves
    c.finish.ensures.told c.finish.ensures.untold c.finish.ensures.finished

pub begin-requires-clause-heeded : goal.begin-requires-clause-heeded
begin-requires-clause-heeded c = subst (λ xs. AreHeeded (state_in xs c.start.new.self.table)) (sym c.deref_mut.ensures.value) c.start.new.self.heeded

pub invariant_of-self-clause-heeded : goal.invariant_of-self-clause-heeded
invariant_of-self-clause-heeded c =
    let kept : length c.begin.new.threads ≡ c.start.new.self.threads.len = omega (arith, c.begin.auto.threads, c.deref_mut.ensures.len) in
    subst (λ xs. AreHeeded (state_in xs c.start.new.self.table)) (sym (with_items_is c.start.new.self.threads c.begin.new.threads kept)) c.begin.ensures.heeded
