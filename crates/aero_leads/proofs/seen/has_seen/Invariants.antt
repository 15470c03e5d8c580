use Rattle.std.proofs.Common.{◌≡◌, ℕ, take}
use Rattle.std.specs.Prelude.{true}
use Rattle.aero_leads.specs.Kept.{least_in, is_below}
use Rattle.aero_leads.specs.Seen.{seen_at}
use Rattle.aero_leads.proofs.seen.has_seen.Given as goal

abbrev pub invariant-loop-lead : goal.invariant-loop-lead
invariant-loop-lead l = record { all : (w : ℕ) → is_below (least_in (take l.lead-index l.other) w) l.below ≡ true → seen_at l.openers w ≡ true }
