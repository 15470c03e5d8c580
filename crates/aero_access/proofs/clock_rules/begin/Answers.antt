use Rattle.std.proofs.Common.{get_or, sym, ap, ◌∙◌, subst, arith}
use Rattle.std.specs.Prelude.{◌<◌, ◌^◌, ◌-◌}
use Rattle.std.proofs.lemmas.Option.{slice_get-get_or}
use Rattle.aero_access.specs.Threads.{thread_begin, thread_begins}
use Rattle.aero_access.proofs.Outcomes.{OnErr_map}
use Rattle.aero_access.proofs.OwnSteps.{same_blocks_set}
use Rattle.aero_access.proofs.OtherSteps.{begin_answer}
use Rattle.aero_access.proofs.Heeding.{thread_heeds, heeded_begin_answer}
use Rattle.aero_access.proofs.clock_rules.begin.Goals as goal

pub returns-clause-moves : goal.returns-clause-moves
returns-clause-moves c =
    let at = slice_get-get_or c.args.threads.now c.args.t c.index-threads-t.result c.requires.actor in
    let e = c.open.ensures in
    begin_answer c.args.threads.now c.args.table.now c.args.t (get_or c.args.threads.now c.args.t c.index-threads-t.result) at c.open.new.self c.open.result
    (sym (ap thread_begin at) ∙ c.requires.outside)
    (subst (λ m. m < 2 ^ 32 - 1) (ap thread_begins at) c.requires.count)
    (λ _. e.raised) e.begin e.open e.begins e.acted

pub returns-clause-err : goal.returns-clause-err
returns-clause-err c =
    let at = slice_get-get_or c.args.threads.now c.args.t c.index-threads-t.result c.requires.actor in
    OnErr_map c.open.result (same_blocks_set c.args.threads.now c.args.t (get_or c.args.threads.now c.args.t c.index-threads-t.result) c.open.new.self at) c.open.ensures.err

pub open-requires-clause-number : goal.open-requires-clause-number
open-requires-clause-number c =
    let at = slice_get-get_or c.args.threads.now c.args.t c.index-threads-t.result c.requires.actor in
    omega (arith, (thread_heeds c.args.threads.now c.args.table.now c.requires.heeded c.args.t (get_or c.args.threads.now c.args.t c.index-threads-t.result) at).most c.args.t, c.requires.count)

pub returns-clause-heeded : goal.returns-clause-heeded
returns-clause-heeded c =
    let at = slice_get-get_or c.args.threads.now c.args.t c.index-threads-t.result c.requires.actor in
    heeded_begin_answer c.args.threads.now c.args.table.now c.requires.heeded c.args.t (get_or c.args.threads.now c.args.t c.index-threads-t.result) c.open.new.self at c.open.result c.open.ensures.raised c.open.ensures.begin c.open.ensures.begins c.open.ensures.err c.open.ensures.err_clock
