use Rattle.std.proofs.Common.{refl}
use Rattle.aero_leads.proofs.last.Last.none.Goals as goal

pub returns : goal.returns
returns c = refl
