use Rattle.std.proofs.Common.{Some, refl, ap, ◌∙◌, sym, le_refl, arith}
use Rattle.std.proofs.lemmas.Option.{slice_get-get_or}
use Rattle.aero_clock.specs.Numbers.{number_at}
use Rattle.aero_access.proofs.SlotNumbers.{finishes}
use Rattle.aero_access.proofs.Heeding.{thread_heeds, heeded_set}
use Rattle.aero_access.proofs.Indexing.{index_written}
use Rattle.aero_access.proofs.clocks.Clocks.finish.Goals as goal

pub invariant_of-self-2-clause-heeded : goal.invariant_of-self-2-clause-heeded
invariant_of-self-2-clause-heeded c =
    let at = (slice_get-get_or c.args.self.now.threads.items c.args.t c.index_mut.result.now (omega (arith, c.requires.actor, c.args.self.now.threads.ok.0)) ∙ ap Some (sym c.index_mut.ensures.value)) in
    heeded_set c.args.self.now.threads.items c.args.self.now.table c.args.t c.index_mut.result.now _ at refl (λ _. refl) (λ u. le_refl (number_at c.index_mut.result.now.clock u))
    (thread_heeds c.args.self.now.threads.items c.args.self.now.table c.args.self.now.heeded c.args.t c.index_mut.result.now at) c.args.self.now.heeded

pub returns-clause-finished : goal.returns-clause-finished
returns-clause-finished c = λ _. finishes c.args.self.now _ c.args.t c.index_mut.result.now _ (slice_get-get_or c.args.self.now.threads.items c.args.t c.index_mut.result.now (omega (arith, c.requires.actor, c.args.self.now.threads.ok.0)) ∙ ap Some (sym c.index_mut.ensures.value)) refl refl refl refl refl refl refl refl

pub invariant_of-self-2-clause-indexed : goal.invariant_of-self-2-clause-indexed
invariant_of-self-2-clause-indexed c = λ unspent.
    index_written c.args.self.now.threads.items c.args.self.now.table c.args.self.now.index c.args.t c.index_mut.result.now _
    (slice_get-get_or c.args.self.now.threads.items c.args.t c.index_mut.result.now (omega (arith, c.requires.actor, c.args.self.now.threads.ok.0)) ∙ ap Some (sym c.index_mut.ensures.value))
    refl refl refl c.requires.indexed
