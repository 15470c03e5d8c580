use Rattle.std.proofs.Common.{◌≡◌, take}
use Rattle.aero_leads.specs.Kept.{least_in}
use Rattle.aero_leads.proofs.row.first.Given as goal

abbrev pub invariant-loop-lead : goal.invariant-loop-lead
invariant-loop-lead l = record { least : l.least ≡ least_in (take l.lead-index l.row) l.w }
