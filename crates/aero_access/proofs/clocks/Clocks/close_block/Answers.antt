use Rattle.std.proofs.Common.{le_refl, Some, refl, ap, ◌∙◌, sym}
use Rattle.std.proofs.lemmas.Option.{slice_get-get_or}
use Rattle.aero_access.proofs.SlotNumbers.{closes_block, inside_within}
use Rattle.aero_clock.specs.Numbers.{number_at}
use Rattle.aero_access.proofs.Heeding.{thread_heeds, heeded_set}
use Rattle.aero_access.proofs.Indexing.{index_ended}
use Rattle.aero_access.proofs.clocks.Clocks.close_block.Goals as goal

pub returns-clause-closes : goal.returns-clause-closes
returns-clause-closes c = λ unspent.
    closes_block c.args.self.now _ c.args.t c.index_mut-thread.result.now _
    (slice_get-get_or c.args.self.now.threads.items c.args.t c.index_mut-thread.result.now (inside_within c.args.self.now.threads.items c.args.t c.requires.inside) ∙ ap Some (sym c.index_mut-thread.ensures.value))
    refl refl unspent refl refl refl refl refl

pub invariant_of-self-clause-heeded : goal.invariant_of-self-clause-heeded
invariant_of-self-clause-heeded c =
    let at = (slice_get-get_or c.args.self.now.threads.items c.args.t c.index_mut-thread.result.now (inside_within c.args.self.now.threads.items c.args.t c.requires.inside) ∙ ap Some (sym c.index_mut-thread.ensures.value)) in
    heeded_set c.args.self.now.threads.items c.args.self.now.table c.args.t c.index_mut-thread.result.now _ at refl (λ none. cc) (λ u. le_refl (number_at c.index_mut-thread.result.now.clock u))
    (thread_heeds c.args.self.now.threads.items c.args.self.now.table c.args.self.now.heeded c.args.t c.index_mut-thread.result.now at) c.args.self.now.heeded

pub invariant_of-self-clause-indexed : goal.invariant_of-self-clause-indexed
invariant_of-self-clause-indexed c = λ unspent.
    let at = (slice_get-get_or c.args.self.now.threads.items c.args.t c.index_mut-thread.result.now (inside_within c.args.self.now.threads.items c.args.t c.requires.inside) ∙ ap Some (sym c.index_mut-thread.ensures.value)) in
    index_ended c.args.self.now.threads.items c.args.self.now.table c.args.self.now.index c.close.new.self c.args.t c.index_mut-thread.result.now _ at refl refl c.close.ensures.closed c.close.ensures.others (c.args.self.now.indexed unspent)
