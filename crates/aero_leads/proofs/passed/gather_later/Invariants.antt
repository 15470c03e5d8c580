use Rattle.std.proofs.Common.{◌≡◌, take}
use Rattle.aero_leads.specs.Passed.{leads_since}
use Rattle.aero_leads.proofs.passed.gather_later.Given as goal

abbrev pub invariant-loop-lead : goal.invariant-loop-lead
invariant-loop-lead l = record { so_far : l.later.items ≡ leads_since l.t l.place (take l.lead-index l.row) }
