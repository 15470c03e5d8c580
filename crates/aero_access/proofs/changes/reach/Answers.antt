use Rattle.aero_access.proofs.Outcomes.{OnOk_map}
use Rattle.aero_access.proofs.Indexing.{index_reached}
use Rattle.aero_access.proofs.changes.reach.Goals as goal

pub returns-clause-index : goal.returns-clause-index
returns-clause-index c =
    OnOk_map c.reach-2.result
    (λ _ table. index_reached c.args.threads.now.items c.reach.new.threads.items table c.args.index.now c.reach-2.new.self c.reach.ensures.same c.reach-2.ensures.same)
    c.reach-2.ensures.room
