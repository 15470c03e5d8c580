use Rattle.std.proofs.Common.{◌≡◌, ℕ, take}
use Rattle.std.specs.Prelude.{◌||◌, is_some, true}
use Rattle.aero_leads.specs.Kept.{least_in}
use Rattle.aero_leads.specs.Seen.{seen_at}
use Rattle.aero_leads.proofs.seen.see_each.Given as goal

abbrev pub invariant-loop-lead : goal.invariant-loop-lead
invariant-loop-lead l = record {
  kept : (w : ℕ) → seen_at l.initial.openers.items w ≡ true → seen_at l.openers.items w ≡ true;
  here : (w : ℕ) → seen_at l.openers.items w ≡ true → (seen_at l.initial.openers.items w || is_some (least_in (take l.lead-index l.row) w)) ≡ true;
  whole : l.all ≡ true → (w : ℕ) → is_some (least_in (take l.lead-index l.row) w) ≡ true → seen_at l.openers.items w ≡ true;
}
