use Rattle.std.proofs.Common.{◌≡◌, ℕ, take}
use Rattle.std.specs.Prelude.{false}
use Rattle.aero_leads.specs.Kept.{least_in, is_below}
use Rattle.aero_leads.proofs.lows.least_place.Given as goal

abbrev pub invariant-loop-lead : goal.invariant-loop-lead
invariant-loop-lead l = record { low : (w : ℕ) → is_below (least_in (take l.lead-index l.row) w) l.least ≡ false }
