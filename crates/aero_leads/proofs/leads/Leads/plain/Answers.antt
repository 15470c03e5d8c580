use Rattle.std.proofs.Common.{refl}
use Rattle.aero_leads.proofs.Standings.{follows_idle}
use Rattle.aero_leads.proofs.leads.Leads.plain.Goals as goal

pub returns-clause-follows : goal.returns-clause-follows
returns-clause-follows c = follows_idle c.args.self.now c.start.new.self c.finish.new.self c.args.t c.in_ok-start.ensures.ok (c.finish.ensures.finished refl)
