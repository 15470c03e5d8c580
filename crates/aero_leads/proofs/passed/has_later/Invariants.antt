use Rattle.std.proofs.Common.{◌≡◌, [], take}
use Rattle.std.specs.Prelude.{false}
use Rattle.aero_leads.specs.Passed.{leads_since}
use Rattle.aero_leads.proofs.passed.has_later.Given as goal

abbrev pub invariant-loop-lead : goal.invariant-loop-lead
invariant-loop-lead l = record { none : l.any ≡ false → leads_since l.t l.place (take l.lead-index l.row) ≡ [] }
