use Rattle.std.proofs.Common.{◌-◌, length, get_or}
use Rattle.std.proofs.lemmas.Option.{slice_get-get_or}
use Rattle.aero_access.proofs.Outcomes.{OnOk_map}
use Rattle.aero_access.proofs.SlotNumbers.{unlabelled}
use Rattle.aero_access.proofs.Indexing.{label_listed}
use Rattle.aero_access.proofs.changes.list_label.Goals as goal

pub returns-in-Some-clause-label : goal.returns-in-Some-clause-label
returns-in-Some-clause-label c =
    let at = slice_get-get_or c.args.threads.now c.args.t c.index-threads-t.result c.requires.actor in
    OnOk_map c.gain_label.result
    (λ gains _. label_listed c.args.threads.now c.args.table.now c.args.index.now c.gain_label.new.self c.args.t (c.args.slot - length c.args.threads.now) c.label.result c.in-Some.kept.now (get_or c.args.threads.now c.args.t c.index-threads-t.result) at c.label.ensures c.in-Some.ensures gains)
    c.gain_label.ensures

pub returns-in-None-clause-label : goal.returns-in-None-clause-label
returns-in-None-clause-label c = absurd (unlabelled c.args.table.now (c.args.slot - length c.args.threads.now) c.label.result c.label.ensures c.in-None.ensures)
