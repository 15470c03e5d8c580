use Rattle.aero_access.proofs.Outcomes.{OnOk_map}
use Rattle.aero_access.proofs.Indexing.{index_taken, keeps_nothing}
use Rattle.aero_access.proofs.changes.fork.Goals as goal

pub returns-clause-index : goal.returns-clause-index
returns-clause-index c = OnOk_map c.list.result (λ gains. index_taken c.args.threads.now c.fork.new.threads c.args.table.now c.args.table.now c.args.index.now c.args.index.now c.list.new.index c.args.u c.fork.ensures.same c.in_ok-fork.ensures.takes
    (keeps_nothing c.args.table.now c.args.index.now) gains) c.list.ensures
