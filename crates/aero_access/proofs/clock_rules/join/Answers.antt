use Rattle.std.proofs.Common.{get_or, sym, ap, ◌∙◌}
use Rattle.std.proofs.lemmas.Option.{slice_get-get_or}
use Rattle.aero_access.specs.Threads.{thread_acted}
use Rattle.aero_access.proofs.Outcomes.{IfOk_both}
use Rattle.aero_access.proofs.OwnSteps.{same_blocks_set}
use Rattle.aero_access.proofs.OtherSteps.{join_answer}
use Rattle.aero_clock.specs.Numbers.{number_at}
use Rattle.aero_access.specs.StateWords.{state_in}
use Rattle.aero_access.proofs.Heeding.{heeds_same, slot_test, thread_heeds, heeded_clock}
use Rattle.aero_access.proofs.clock_rules.join.Goals as goal

pub returns-clause-moves : goal.returns-clause-moves
returns-clause-moves c =
    let at = slice_get-get_or c.args.threads.now c.args.t c.index-threads-t.result c.requires.actor in
    let at_u = slice_get-get_or c.args.threads.now c.args.u c.index-threads-u.result c.requires.target in
    IfOk_both c.take.result
    (λ closes closing takes.
    join_answer c.args.threads.now c.args.table.now c.args.t (get_or c.args.threads.now c.args.t c.index-threads-t.result) at c.args.u c.requires.other (get_or c.args.threads.now c.args.u c.index-threads-u.result) at_u
    (sym (ap thread_acted at_u) ∙ c.requires.acted) c.in_ok-clock.clock (λ v. c.in_ok-clock.ensures.at v) c.take.new.self closes closing takes c.take.ensures.same)
    c.take.ensures.closing c.take.ensures.takes

pub returns-clause-same : goal.returns-clause-same
returns-clause-same c =
    let at = slice_get-get_or c.args.threads.now c.args.t c.index-threads-t.result c.requires.actor in
    same_blocks_set c.args.threads.now c.args.t (get_or c.args.threads.now c.args.t c.index-threads-t.result) c.take.new.self at c.take.ensures.same

pub take-requires : goal.take-requires
take-requires c =
    let at = slice_get-get_or c.args.threads.now c.args.t c.index-threads-t.result c.requires.actor in
    let at_u = slice_get-get_or c.args.threads.now c.args.u c.index-threads-u.result c.requires.target in
    slot_test c.args.threads.now c.args.table.now c.args.t (get_or c.args.threads.now c.args.t c.index-threads-t.result) c.requires.heeded at (number_at c.in_ok-clock.clock) (heeds_same (state_in c.args.threads.now c.args.table.now) (number_at (get_or c.args.threads.now c.args.u c.index-threads-u.result).clock) (number_at c.in_ok-clock.clock) (λ v. c.in_ok-clock.ensures.at v) (thread_heeds c.args.threads.now c.args.table.now c.requires.heeded c.args.u (get_or c.args.threads.now c.args.u c.index-threads-u.result) at_u))

pub returns-clause-heeded : goal.returns-clause-heeded
returns-clause-heeded c =
    let at = slice_get-get_or c.args.threads.now c.args.t c.index-threads-t.result c.requires.actor in
    let at_u = slice_get-get_or c.args.threads.now c.args.u c.index-threads-u.result c.requires.target in
    heeded_clock c.args.threads.now c.args.table.now c.requires.heeded c.args.t (get_or c.args.threads.now c.args.t c.index-threads-t.result) at c.take.new.self c.take.ensures.same c.take.ensures.grows
    (c.take.ensures.heeds (state_in c.args.threads.now c.args.table.now) (thread_heeds c.args.threads.now c.args.table.now c.requires.heeded c.args.t (get_or c.args.threads.now c.args.t c.index-threads-t.result) at) (heeds_same (state_in c.args.threads.now c.args.table.now) (number_at (get_or c.args.threads.now c.args.u c.index-threads-u.result).clock) (number_at c.in_ok-clock.clock) (λ v. c.in_ok-clock.ensures.at v) (thread_heeds c.args.threads.now c.args.table.now c.requires.heeded c.args.u (get_or c.args.threads.now c.args.u c.index-threads-u.result) at_u)))
