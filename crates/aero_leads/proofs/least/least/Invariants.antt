use Rattle.std.proofs.Common.{take}
use Rattle.aero_leads.specs.Kept.{least_in}
use Rattle.aero_leads.specs.Leasts.{IsLeastOf}
use Rattle.aero_leads.proofs.least.least.Given as goal

abbrev pub invariant-loop-lead : goal.invariant-loop-lead
invariant-loop-lead l = record { least : IsLeastOf (least_in (take l.lead-index l.row)) l.least }
