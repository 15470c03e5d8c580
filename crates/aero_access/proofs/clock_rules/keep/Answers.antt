use Rattle.std.proofs.Common.{⊎_elim}
use Rattle.aero_clock.specs.Numbers.{number_at}
use Rattle.aero_access.proofs.Outcomes.{OnOk_both, either}
use Rattle.aero_access.proofs.Heeding.{set_heeds, still_heeds}
use Rattle.aero_access.proofs.Indexing.{keeps_set}
use Rattle.aero_access.proofs.clock_rules.keep.Goals as goal

pub returns-clause-heeds : goal.returns-clause-heeds
returns-clause-heeds c = λ w heeds all. ⊎_elim
    (λ keeps. set_heeds w c.args.table.now c.keep.new.self c.args.slot c.args.t (number_at c.args.thread.now.clock) keeps heeds all)
    (λ same. still_heeds w c.args.table.now c.keep.new.self same all)
    (either c.keep.result c.keep.ensures.ok c.keep.ensures.err)

pub returns-clause-labels : goal.returns-clause-labels
returns-clause-labels c =
    OnOk_both c.keep.result
    (λ keeps labels.
    keeps_set c.args.table.now c.keep.new.self c.args.index.now c.note.new.index c.args.slot c.in_ok-place.place (number_at c.args.thread.now.clock) c.in_ok-place.ensures c.in_ok-note.ensures
    keeps.clock labels)
    c.keep.ensures.ok c.keep.ensures.labels
