use Rattle.std.proofs.Common.{get_or}
use Rattle.std.proofs.lemmas.Option.{slice_get-get_or}
use Rattle.aero_engine.specs.declared.slot.Slot.TheVariants.{LastRelease}
use Rattle.aero_access.proofs.Outcomes.{IfOk_both, IfOk_map}
use Rattle.aero_access.proofs.OwnSteps.{same_blocks_set, taken_nothing}
use Rattle.aero_access.proofs.Events.{acquire_answer}
use Rattle.aero_access.proofs.Heeding.{kept_test, heeded_taken}
use Rattle.aero_access.specs.TableWords.{kept_of}
use Rattle.aero_access.specs.StateWords.{last_but}
use Rattle.aero_access.proofs.clock_rules.acquire.Goals as goal

pub returns-clause-moves : goal.returns-clause-moves
returns-clause-moves c =
    let at = slice_get-get_or c.args.threads.now c.args.t c.index-threads-t.result c.requires.actor in
    IfOk_both c.take_last.result
    (λ closes closing takes. acquire_answer c.args.threads.now c.args.table.now c.args.t (get_or c.args.threads.now c.args.t c.index-threads-t.result) at c.args.l c.take_last.new.thread closes closing takes c.take_last.ensures.same)
    c.take_last.ensures.closing c.take_last.ensures.takes

pub returns-clause-same : goal.returns-clause-same
returns-clause-same c =
    let at = slice_get-get_or c.args.threads.now c.args.t c.index-threads-t.result c.requires.actor in
    same_blocks_set c.args.threads.now c.args.t (get_or c.args.threads.now c.args.t c.index-threads-t.result) c.take_last.new.thread at c.take_last.ensures.same

pub take_last-requires : goal.take_last-requires
take_last-requires c =
    let at = slice_get-get_or c.args.threads.now c.args.t c.index-threads-t.result c.requires.actor in
    kept_test c.args.threads.now c.args.table.now c.requires.heeded c.args.t (get_or c.args.threads.now c.args.t c.index-threads-t.result) at (LastRelease c.args.l)

pub returns-clause-heeded : goal.returns-clause-heeded
returns-clause-heeded c =
    let at = slice_get-get_or c.args.threads.now c.args.t c.index-threads-t.result c.requires.actor in
    heeded_taken c.args.threads.now c.args.table.now c.requires.heeded c.args.t (get_or c.args.threads.now c.args.t c.index-threads-t.result) at (LastRelease c.args.l) c.take_last.new.thread c.take_last.ensures.same c.take_last.ensures.grows c.take_last.ensures.heeds

pub returns-clause-still : goal.returns-clause-still
returns-clause-still c = λ none.
    let at = slice_get-get_or c.args.threads.now c.args.t c.index-threads-t.result c.requires.actor in
    IfOk_map c.take_last.result
    (λ closes takes no. taken_nothing c.args.threads.now c.args.t (get_or c.args.threads.now c.args.t c.index-threads-t.result) c.take_last.new.thread at (last_but c.args.t (kept_of c.args.table.now (LastRelease c.args.l))) (takes no) none)
    c.take_last.ensures.takes
