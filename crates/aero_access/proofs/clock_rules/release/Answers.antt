use Rattle.std.proofs.Common.{Some, sym, ap, ◌∙◌}
use Rattle.std.proofs.lemmas.Option.{slice_get-get_or}
use Rattle.aero_access.proofs.Outcomes.{OnOk_map}
use Rattle.aero_access.proofs.Events.{release_moves}
use Rattle.aero_access.proofs.Heeding.{heeded_kept}
use Rattle.aero_access.proofs.clock_rules.release.Goals as goal

pub returns-clause-moves : goal.returns-clause-moves
returns-clause-moves c =
    let at = slice_get-get_or c.args.threads.now c.args.t c.index-threads-t.result c.requires.actor ∙ ap Some (sym c.index-threads-t.is) in
    OnOk_map c.keep.result (release_moves c.args.threads.now c.args.table.now c.args.t c.index-threads-t.result at c.args.l c.keep.new.table) c.keep.ensures.keeps

pub returns-clause-heeded : goal.returns-clause-heeded
returns-clause-heeded c =
    let at = slice_get-get_or c.args.threads.now c.args.t c.index-threads-t.result c.requires.actor ∙ ap Some (sym c.index-threads-t.is) in
    heeded_kept c.args.threads.now c.args.table.now c.requires.heeded c.args.t c.index-threads-t.result at c.keep.new.table c.keep.ensures.heeds
