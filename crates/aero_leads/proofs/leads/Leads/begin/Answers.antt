use Rattle.std.proofs.Common.{refl, false, None}
use Rattle.aero_model.specs.declared.numbered.What.TheVariants.{Begin}
use Rattle.aero_engine.specs.Events.{event}
use Rattle.aero_leads.proofs.Standings.{follows}
use Rattle.aero_leads.proofs.leads.Leads.begin.Goals as goal

pub returns-clause-follows : goal.returns-clause-follows
returns-clause-follows c =
    follows c.args.self.now c.start.new.self _ c.finish.new.self _ (event c.args.t (Begin None)) c.finish.result false
    c.in_ok-start.ensures.ok c.in_ok-begin.ensures.moves refl c.finish.ensures.told c.finish.ensures.untold c.finish.ensures.finished
