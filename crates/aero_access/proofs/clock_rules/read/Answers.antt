use Rattle.std.proofs.Common.{get_or}
use Rattle.std.proofs.lemmas.Option.{slice_get-get_or}
use Rattle.aero_engine.specs.declared.slot.Slot.TheVariants.{LastWrite}
use Rattle.aero_access.proofs.Outcomes.{not_true}
use Rattle.aero_access.proofs.OwnSteps.{same_blocks_set, taken_nothing}
use Rattle.aero_access.proofs.Events.{read_closes, read_moves}
use Rattle.aero_access.proofs.Heeding.{kept_test, heeded_taken, heeded_taken_kept}
use Rattle.aero_access.specs.TableWords.{kept_of}
use Rattle.aero_access.specs.StateWords.{last_but}
use Rattle.aero_access.proofs.clock_rules.read.Goals as goal

pub returns-clause-still : goal.returns-clause-still
returns-clause-still c = λ none no.
    let at = slice_get-get_or c.args.threads.now c.args.t c.index-threads-t.result c.requires.actor in
    taken_nothing c.args.threads.now c.args.t (get_or c.args.threads.now c.args.t c.index-threads-t.result) c.take_last.new.thread at (last_but c.args.t (kept_of c.args.table.now (LastWrite c.args.x)))
    (c.in_ok-take_last.ensures.takes c.if-branch.false) none

pub returns-then-branch-clause-moves : goal.returns-then-branch-clause-moves
returns-then-branch-clause-moves c =
    let at = slice_get-get_or c.args.threads.now c.args.t c.index-threads-t.result c.requires.actor in
    read_closes c.args.threads.now c.args.table.now c.args.t (get_or c.args.threads.now c.args.t c.index-threads-t.result) at c.args.x _ (c.in_ok-take_last.ensures.closing.0 c.if-branch.true)

pub returns-clause-moves : goal.returns-clause-moves
returns-clause-moves c =
    let at = slice_get-get_or c.args.threads.now c.args.t c.index-threads-t.result c.requires.actor in
    read_moves c.args.threads.now c.args.table.now c.args.t (get_or c.args.threads.now c.args.t c.index-threads-t.result) at c.args.x c.take_last.new.thread c.keep.new.table
    (λ closes. not_true c.in_ok-take_last.field-0 c.if-branch.false (c.in_ok-take_last.ensures.closing.1 closes))
    (c.in_ok-take_last.ensures.takes c.if-branch.false) c.take_last.ensures.same c.in_ok-keep.ensures.keeps

pub returns-then-branch-clause-same : goal.returns-then-branch-clause-same
returns-then-branch-clause-same c =
    let at = slice_get-get_or c.args.threads.now c.args.t c.index-threads-t.result c.requires.actor in
    same_blocks_set c.args.threads.now c.args.t (get_or c.args.threads.now c.args.t c.index-threads-t.result) c.take_last.new.thread at c.take_last.ensures.same

pub returns-in_err-keep-clause-same : goal.returns-in_err-keep-clause-same
returns-in_err-keep-clause-same c =
    let at = slice_get-get_or c.args.threads.now c.args.t c.index-threads-t.result c.requires.actor in
    same_blocks_set c.args.threads.now c.args.t (get_or c.args.threads.now c.args.t c.index-threads-t.result) c.take_last.new.thread at c.take_last.ensures.same

pub returns-in_err-take_last-clause-same : goal.returns-in_err-take_last-clause-same
returns-in_err-take_last-clause-same c =
    let at = slice_get-get_or c.args.threads.now c.args.t c.index-threads-t.result c.requires.actor in
    same_blocks_set c.args.threads.now c.args.t (get_or c.args.threads.now c.args.t c.index-threads-t.result) c.take_last.new.thread at c.take_last.ensures.same

pub returns-clause-same : goal.returns-clause-same
returns-clause-same c =
    let at = slice_get-get_or c.args.threads.now c.args.t c.index-threads-t.result c.requires.actor in
    same_blocks_set c.args.threads.now c.args.t (get_or c.args.threads.now c.args.t c.index-threads-t.result) c.take_last.new.thread at c.take_last.ensures.same

pub take_last-requires : goal.take_last-requires
take_last-requires c =
    let at = slice_get-get_or c.args.threads.now c.args.t c.index-threads-t.result c.requires.actor in
    kept_test c.args.threads.now c.args.table.now c.requires.heeded c.args.t (get_or c.args.threads.now c.args.t c.index-threads-t.result) at (LastWrite c.args.x)

pub returns-in_err-take_last-clause-heeded : goal.returns-in_err-take_last-clause-heeded
returns-in_err-take_last-clause-heeded c =
    let at = slice_get-get_or c.args.threads.now c.args.t c.index-threads-t.result c.requires.actor in
    heeded_taken c.args.threads.now c.args.table.now c.requires.heeded c.args.t (get_or c.args.threads.now c.args.t c.index-threads-t.result) at (LastWrite c.args.x) c.take_last.new.thread c.take_last.ensures.same c.take_last.ensures.grows c.take_last.ensures.heeds

pub returns-then-branch-clause-heeded : goal.returns-then-branch-clause-heeded
returns-then-branch-clause-heeded c =
    let at = slice_get-get_or c.args.threads.now c.args.t c.index-threads-t.result c.requires.actor in
    heeded_taken c.args.threads.now c.args.table.now c.requires.heeded c.args.t (get_or c.args.threads.now c.args.t c.index-threads-t.result) at (LastWrite c.args.x) c.take_last.new.thread c.take_last.ensures.same c.take_last.ensures.grows c.take_last.ensures.heeds

pub returns-in_err-keep-clause-heeded : goal.returns-in_err-keep-clause-heeded
returns-in_err-keep-clause-heeded c =
    let at = slice_get-get_or c.args.threads.now c.args.t c.index-threads-t.result c.requires.actor in
    heeded_taken_kept c.args.threads.now c.args.table.now c.args.t (get_or c.args.threads.now c.args.t c.index-threads-t.result) c.take_last.new.thread at c.keep.new.table (heeded_taken c.args.threads.now c.args.table.now c.requires.heeded c.args.t (get_or c.args.threads.now c.args.t c.index-threads-t.result) at (LastWrite c.args.x) c.take_last.new.thread c.take_last.ensures.same c.take_last.ensures.grows c.take_last.ensures.heeds) c.keep.ensures.heeds

pub returns-clause-heeded : goal.returns-clause-heeded
returns-clause-heeded c =
    let at = slice_get-get_or c.args.threads.now c.args.t c.index-threads-t.result c.requires.actor in
    heeded_taken_kept c.args.threads.now c.args.table.now c.args.t (get_or c.args.threads.now c.args.t c.index-threads-t.result) c.take_last.new.thread at c.keep.new.table (heeded_taken c.args.threads.now c.args.table.now c.requires.heeded c.args.t (get_or c.args.threads.now c.args.t c.index-threads-t.result) at (LastWrite c.args.x) c.take_last.new.thread c.take_last.ensures.same c.take_last.ensures.grows c.take_last.ensures.heeds) c.keep.ensures.heeds
