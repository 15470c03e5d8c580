use Rattle.std.proofs.Common.{◌≡◌}
use Rattle.aero_leads.proofs.Leasts.{lowered_first}
use Rattle.aero_leads.proofs.row.lower_each.Given as goal

abbrev pub invariant-loop-lead : goal.invariant-loop-lead
invariant-loop-lead l = record { lowered : l.row ≡ lowered_first l.place l.lead-index l.initial.row }
