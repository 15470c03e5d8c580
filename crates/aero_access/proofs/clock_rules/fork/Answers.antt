use Rattle.std.proofs.Common.{get_or}
use Rattle.std.proofs.lemmas.Option.{slice_get-get_or}
use Rattle.aero_access.proofs.Outcomes.{OnOk_map}
use Rattle.aero_access.proofs.OwnSteps.{same_blocks_set}
use Rattle.aero_access.proofs.OtherSteps.{fork_moves}
use Rattle.aero_clock.specs.Numbers.{number_at}
use Rattle.aero_access.specs.StateWords.{state_in}
use Rattle.aero_access.proofs.Heeding.{heeds_same, thread_heeds, heeded_clock}
use Rattle.aero_access.proofs.clock_rules.fork.Goals as goal

pub returns-clause-moves : goal.returns-clause-moves
returns-clause-moves c =
    let at = slice_get-get_or c.args.threads.now c.args.t c.index-threads-t.result c.requires.actor in
    let at_u = slice_get-get_or c.args.threads.now c.args.u c.index-threads-u.result c.requires.target in
    OnOk_map c.join.result
    (λ takes.
    fork_moves c.args.threads.now c.args.table.now c.args.t (get_or c.args.threads.now c.args.t c.index-threads-t.result) at c.args.u (get_or c.args.threads.now c.args.u c.index-threads-u.result) at_u c.in_ok-clock.clock
    (λ v. c.in_ok-clock.ensures.at v) c.join.new.self takes c.join.ensures.same)
    c.join.ensures.ok

pub returns-clause-same : goal.returns-clause-same
returns-clause-same c =
    let at_u = slice_get-get_or c.args.threads.now c.args.u c.index-threads-u.result c.requires.target in
    same_blocks_set c.args.threads.now c.args.u (get_or c.args.threads.now c.args.u c.index-threads-u.result) c.join.new.self at_u c.join.ensures.same

pub returns-clause-heeded : goal.returns-clause-heeded
returns-clause-heeded c =
    let at = slice_get-get_or c.args.threads.now c.args.t c.index-threads-t.result c.requires.actor in
    let at_u = slice_get-get_or c.args.threads.now c.args.u c.index-threads-u.result c.requires.target in
    heeded_clock c.args.threads.now c.args.table.now c.requires.heeded c.args.u (get_or c.args.threads.now c.args.u c.index-threads-u.result) at_u c.join.new.self c.join.ensures.same c.join.ensures.grows
    (c.join.ensures.heeds (state_in c.args.threads.now c.args.table.now) (thread_heeds c.args.threads.now c.args.table.now c.requires.heeded c.args.u (get_or c.args.threads.now c.args.u c.index-threads-u.result) at_u) (heeds_same (state_in c.args.threads.now c.args.table.now) (number_at (get_or c.args.threads.now c.args.t c.index-threads-t.result).clock) (number_at c.in_ok-clock.clock) (λ v. c.in_ok-clock.ensures.at v) (thread_heeds c.args.threads.now c.args.table.now c.requires.heeded c.args.t (get_or c.args.threads.now c.args.t c.index-threads-t.result) at)))
