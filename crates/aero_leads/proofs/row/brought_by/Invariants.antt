use Rattle.std.proofs.Common.{◌≡◌, ℕ, take}
use Rattle.std.specs.Prelude.{is_some, true, false}
use Rattle.aero_leads.specs.Kept.{least_in, is_below}
use Rattle.aero_leads.proofs.row.brought_by.Given as goal

abbrev pub invariant-loop-lead : goal.invariant-loop-lead
invariant-loop-lead l = record {
  passed : is_below (least_in (take l.lead-index l.other) l.t) l.below ≡ false;
  known : l.news ≡ false → (w : ℕ) → is_below (least_in (take l.lead-index l.other) w) l.below ≡ true → is_some (least_in l.row w) ≡ true;
}
