use Rattle.std.proofs.Common.{get_or, subst, arith}
use Rattle.std.proofs.lemmas.Option.{slice_get-get_or}
use Rattle.aero_clock.specs.Numbers.{number_at}
use Rattle.aero_engine.specs.declared.slot.Slot.TheVariants.{LastWrite}
use Rattle.aero_access.specs.Threads.{ClosesOne}
use Rattle.aero_access.specs.TableWords.{readers_of}
use Rattle.aero_access.proofs.Outcomes.{not_true}
use Rattle.aero_access.proofs.ThreadLists.{same_block_then}
use Rattle.aero_access.proofs.OwnSteps.{same_blocks_set}
use Rattle.aero_access.proofs.WriteSteps.{write_closes, reader_closes, write_moves}
use Rattle.aero_access.specs.StateWords.{state_in}
use Rattle.aero_access.proofs.Heeding.{kept_test, reader_test, reader_heeds, test_still, taken_heeds, heeded_clock, heeded_taken, heeded_taken_kept}
use Rattle.aero_access.proofs.clock_rules.write.Goals as goal

pub returns-then-branch-clause-moves : goal.returns-then-branch-clause-moves
returns-then-branch-clause-moves c =
    let at = slice_get-get_or c.args.threads.now c.args.t c.index-threads-t.result c.requires.actor in
    write_closes c.args.threads.now c.args.table.now c.args.t (get_or c.args.threads.now c.args.t c.index-threads-t.result) at c.args.x _ (c.in_ok-take_last.ensures.closing.0 c.if-branch.true)

pub returns-then-branch-2-clause-moves : goal.returns-then-branch-2-clause-moves
returns-then-branch-2-clause-moves c =
    let at = slice_get-get_or c.args.threads.now c.args.t c.index-threads-t.result c.requires.actor in
    reader_closes c.args.threads.now c.args.table.now c.args.t (get_or c.args.threads.now c.args.t c.index-threads-t.result) at c.args.x _
    (subst (λ b. ClosesOne b c.args.t (readers_of c.args.table.now c.args.x)) c.take_last.ensures.same.begin (c.in_ok-take_reads.ensures.closing c.if-branch-2.true))

pub returns-clause-moves : goal.returns-clause-moves
returns-clause-moves c =
    let at = slice_get-get_or c.args.threads.now c.args.t c.index-threads-t.result c.requires.actor in
    write_moves c.args.threads.now c.args.table.now c.args.t (get_or c.args.threads.now c.args.t c.index-threads-t.result) at c.args.x c.take_last.new.thread c.take_reads.new.thread c.keep.new.table
    (λ closes. not_true c.in_ok-take_last.field-0 c.if-branch.false (c.in_ok-take_last.ensures.closing.1 closes))
    (c.in_ok-take_last.ensures.takes c.if-branch.false) c.take_last.ensures.same
    (c.in_ok-take_reads.ensures.none c.if-branch-2.false) (c.in_ok-take_reads.ensures.takes c.if-branch-2.false)
    (same_block_then (get_or c.args.threads.now c.args.t c.index-threads-t.result) c.take_last.new.thread c.take_reads.new.thread c.take_last.ensures.same c.take_reads.ensures.same)
    c.in_ok-keep.ensures.keeps

pub returns-then-branch-clause-same : goal.returns-then-branch-clause-same
returns-then-branch-clause-same c =
    let at = slice_get-get_or c.args.threads.now c.args.t c.index-threads-t.result c.requires.actor in
    same_blocks_set c.args.threads.now c.args.t (get_or c.args.threads.now c.args.t c.index-threads-t.result) c.take_last.new.thread at c.take_last.ensures.same

pub returns-in_err-take_last-clause-same : goal.returns-in_err-take_last-clause-same
returns-in_err-take_last-clause-same c =
    let at = slice_get-get_or c.args.threads.now c.args.t c.index-threads-t.result c.requires.actor in
    same_blocks_set c.args.threads.now c.args.t (get_or c.args.threads.now c.args.t c.index-threads-t.result) c.take_last.new.thread at c.take_last.ensures.same

pub returns-in_err-take_reads-clause-same : goal.returns-in_err-take_reads-clause-same
returns-in_err-take_reads-clause-same c =
    let at = slice_get-get_or c.args.threads.now c.args.t c.index-threads-t.result c.requires.actor in
    same_blocks_set c.args.threads.now c.args.t (get_or c.args.threads.now c.args.t c.index-threads-t.result) c.take_reads.new.thread at
    (same_block_then (get_or c.args.threads.now c.args.t c.index-threads-t.result) c.take_last.new.thread c.take_reads.new.thread c.take_last.ensures.same c.take_reads.ensures.same)

pub returns-then-branch-2-clause-same : goal.returns-then-branch-2-clause-same
returns-then-branch-2-clause-same c =
    let at = slice_get-get_or c.args.threads.now c.args.t c.index-threads-t.result c.requires.actor in
    same_blocks_set c.args.threads.now c.args.t (get_or c.args.threads.now c.args.t c.index-threads-t.result) c.take_reads.new.thread at
    (same_block_then (get_or c.args.threads.now c.args.t c.index-threads-t.result) c.take_last.new.thread c.take_reads.new.thread c.take_last.ensures.same c.take_reads.ensures.same)

pub returns-in_err-keep-clause-same : goal.returns-in_err-keep-clause-same
returns-in_err-keep-clause-same c =
    let at = slice_get-get_or c.args.threads.now c.args.t c.index-threads-t.result c.requires.actor in
    same_blocks_set c.args.threads.now c.args.t (get_or c.args.threads.now c.args.t c.index-threads-t.result) c.take_reads.new.thread at
    (same_block_then (get_or c.args.threads.now c.args.t c.index-threads-t.result) c.take_last.new.thread c.take_reads.new.thread c.take_last.ensures.same c.take_reads.ensures.same)

pub returns-clause-same : goal.returns-clause-same
returns-clause-same c =
    let at = slice_get-get_or c.args.threads.now c.args.t c.index-threads-t.result c.requires.actor in
    same_blocks_set c.args.threads.now c.args.t (get_or c.args.threads.now c.args.t c.index-threads-t.result) c.take_reads.new.thread at
    (same_block_then (get_or c.args.threads.now c.args.t c.index-threads-t.result) c.take_last.new.thread c.take_reads.new.thread c.take_last.ensures.same c.take_reads.ensures.same)

pub take_last-requires : goal.take_last-requires
take_last-requires c =
    let at = slice_get-get_or c.args.threads.now c.args.t c.index-threads-t.result c.requires.actor in
    kept_test c.args.threads.now c.args.table.now c.requires.heeded c.args.t (get_or c.args.threads.now c.args.t c.index-threads-t.result) at (LastWrite c.args.x)

pub take_reads-requires : goal.take_reads-requires
take_reads-requires c =
    let at = slice_get-get_or c.args.threads.now c.args.t c.index-threads-t.result c.requires.actor in
    λ i k at_k. test_still (get_or c.args.threads.now c.args.t c.index-threads-t.result) c.take_last.new.thread c.args.t (number_at k.clock) c.take_last.ensures.same (reader_test c.args.threads.now c.args.table.now c.requires.heeded c.args.t (get_or c.args.threads.now c.args.t c.index-threads-t.result) at c.args.x i k at_k)

pub returns-in_err-take_last-clause-heeded : goal.returns-in_err-take_last-clause-heeded
returns-in_err-take_last-clause-heeded c =
    let at = slice_get-get_or c.args.threads.now c.args.t c.index-threads-t.result c.requires.actor in
    heeded_taken c.args.threads.now c.args.table.now c.requires.heeded c.args.t (get_or c.args.threads.now c.args.t c.index-threads-t.result) at (LastWrite c.args.x) c.take_last.new.thread c.take_last.ensures.same c.take_last.ensures.grows c.take_last.ensures.heeds

pub returns-then-branch-clause-heeded : goal.returns-then-branch-clause-heeded
returns-then-branch-clause-heeded c =
    let at = slice_get-get_or c.args.threads.now c.args.t c.index-threads-t.result c.requires.actor in
    heeded_taken c.args.threads.now c.args.table.now c.requires.heeded c.args.t (get_or c.args.threads.now c.args.t c.index-threads-t.result) at (LastWrite c.args.x) c.take_last.new.thread c.take_last.ensures.same c.take_last.ensures.grows c.take_last.ensures.heeds

pub returns-in_err-take_reads-clause-heeded : goal.returns-in_err-take_reads-clause-heeded
returns-in_err-take_reads-clause-heeded c =
    let at = slice_get-get_or c.args.threads.now c.args.t c.index-threads-t.result c.requires.actor in
    heeded_clock c.args.threads.now c.args.table.now c.requires.heeded c.args.t (get_or c.args.threads.now c.args.t c.index-threads-t.result) at c.take_reads.new.thread
    (same_block_then (get_or c.args.threads.now c.args.t c.index-threads-t.result) c.take_last.new.thread c.take_reads.new.thread c.take_last.ensures.same c.take_reads.ensures.same)
    (λ u. omega (arith, c.take_last.ensures.grows u, c.take_reads.ensures.grows u))
    (c.take_reads.ensures.heeds (state_in c.args.threads.now c.args.table.now) (taken_heeds c.args.threads.now c.args.table.now c.requires.heeded c.args.t (get_or c.args.threads.now c.args.t c.index-threads-t.result) at (LastWrite c.args.x) c.take_last.new.thread c.take_last.ensures.heeds) (reader_heeds c.args.threads.now c.args.table.now c.requires.heeded c.args.t (get_or c.args.threads.now c.args.t c.index-threads-t.result) at c.args.x))

pub returns-then-branch-2-clause-heeded : goal.returns-then-branch-2-clause-heeded
returns-then-branch-2-clause-heeded c =
    let at = slice_get-get_or c.args.threads.now c.args.t c.index-threads-t.result c.requires.actor in
    heeded_clock c.args.threads.now c.args.table.now c.requires.heeded c.args.t (get_or c.args.threads.now c.args.t c.index-threads-t.result) at c.take_reads.new.thread
    (same_block_then (get_or c.args.threads.now c.args.t c.index-threads-t.result) c.take_last.new.thread c.take_reads.new.thread c.take_last.ensures.same c.take_reads.ensures.same)
    (λ u. omega (arith, c.take_last.ensures.grows u, c.take_reads.ensures.grows u))
    (c.take_reads.ensures.heeds (state_in c.args.threads.now c.args.table.now) (taken_heeds c.args.threads.now c.args.table.now c.requires.heeded c.args.t (get_or c.args.threads.now c.args.t c.index-threads-t.result) at (LastWrite c.args.x) c.take_last.new.thread c.take_last.ensures.heeds) (reader_heeds c.args.threads.now c.args.table.now c.requires.heeded c.args.t (get_or c.args.threads.now c.args.t c.index-threads-t.result) at c.args.x))

pub returns-in_err-keep-clause-heeded : goal.returns-in_err-keep-clause-heeded
returns-in_err-keep-clause-heeded c =
    let at = slice_get-get_or c.args.threads.now c.args.t c.index-threads-t.result c.requires.actor in
    heeded_taken_kept c.args.threads.now c.args.table.now c.args.t (get_or c.args.threads.now c.args.t c.index-threads-t.result) c.take_reads.new.thread at c.keep.new.table (heeded_clock c.args.threads.now c.args.table.now c.requires.heeded c.args.t (get_or c.args.threads.now c.args.t c.index-threads-t.result) at c.take_reads.new.thread
    (same_block_then (get_or c.args.threads.now c.args.t c.index-threads-t.result) c.take_last.new.thread c.take_reads.new.thread c.take_last.ensures.same c.take_reads.ensures.same)
    (λ u. omega (arith, c.take_last.ensures.grows u, c.take_reads.ensures.grows u))
    (c.take_reads.ensures.heeds (state_in c.args.threads.now c.args.table.now) (taken_heeds c.args.threads.now c.args.table.now c.requires.heeded c.args.t (get_or c.args.threads.now c.args.t c.index-threads-t.result) at (LastWrite c.args.x) c.take_last.new.thread c.take_last.ensures.heeds) (reader_heeds c.args.threads.now c.args.table.now c.requires.heeded c.args.t (get_or c.args.threads.now c.args.t c.index-threads-t.result) at c.args.x))) c.keep.ensures.heeds

pub returns-clause-heeded : goal.returns-clause-heeded
returns-clause-heeded c =
    let at = slice_get-get_or c.args.threads.now c.args.t c.index-threads-t.result c.requires.actor in
    heeded_taken_kept c.args.threads.now c.args.table.now c.args.t (get_or c.args.threads.now c.args.t c.index-threads-t.result) c.take_reads.new.thread at c.keep.new.table (heeded_clock c.args.threads.now c.args.table.now c.requires.heeded c.args.t (get_or c.args.threads.now c.args.t c.index-threads-t.result) at c.take_reads.new.thread
    (same_block_then (get_or c.args.threads.now c.args.t c.index-threads-t.result) c.take_last.new.thread c.take_reads.new.thread c.take_last.ensures.same c.take_reads.ensures.same)
    (λ u. omega (arith, c.take_last.ensures.grows u, c.take_reads.ensures.grows u))
    (c.take_reads.ensures.heeds (state_in c.args.threads.now c.args.table.now) (taken_heeds c.args.threads.now c.args.table.now c.requires.heeded c.args.t (get_or c.args.threads.now c.args.t c.index-threads-t.result) at (LastWrite c.args.x) c.take_last.new.thread c.take_last.ensures.heeds) (reader_heeds c.args.threads.now c.args.table.now c.requires.heeded c.args.t (get_or c.args.threads.now c.args.t c.index-threads-t.result) at c.args.x))) c.keep.ensures.heeds
