use Rattle.std.proofs.Common.{take}
use Rattle.aero_leads.specs.Listed.{followers}
use Rattle.aero_leads.proofs.Backs.{LeastPassing, is_back}
use Rattle.aero_leads.proofs.back.least_known.Given as goal

abbrev pub invariant-loop-i : goal.invariant-loop-i
invariant-loop-i l = record { passing : LeastPassing (is_back l.threads l.t) (take l.i (followers l.led l.t)) l.least }
