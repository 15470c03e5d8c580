use Rattle.std.proofs.Common.{refl}
use Rattle.aero_model.specs.declared.numbered.What.TheVariants.{Join}
use Rattle.aero_engine.specs.Events.{event}
use Rattle.aero_leads.proofs.Standings.{follows}
use Rattle.aero_leads.proofs.leads.Leads.join.Goals as goal

pub returns-clause-follows : goal.returns-clause-follows
returns-clause-follows c =
    follows c.args.self.now c.start.new.self _ c.finish.new.self _ (event c.args.t (Join c.args.u)) c.finish.result c.in_ok-closes.closes
    c.in_ok-start.ensures.ok c.in_ok-closes.ensures.moves refl c.finish.ensures.told c.finish.ensures.untold c.finish.ensures.finished
