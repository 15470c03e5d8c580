use Rattle.std.proofs.Common.{◌≡◌, take}
use Rattle.std.specs.Prelude.{is_some, false}
use Rattle.aero_leads.specs.Kept.{least_in}
use Rattle.aero_leads.proofs.row.has.Given as goal

abbrev pub invariant-loop-lead : goal.invariant-loop-lead
invariant-loop-lead l = record { none : is_some (least_in (take l.lead-index l.row) l.w) ≡ false }
