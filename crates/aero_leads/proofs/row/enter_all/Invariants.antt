use Rattle.std.proofs.Common.{◌≡◌, ℕ, Some, take}
use Rattle.std.specs.Prelude.{is_some, true, slice_get}
use Rattle.aero_leads.specs.Kept.{least_in}
use Rattle.aero_leads.specs.Indexed.{opener_of, place_of}
use Rattle.aero_leads.proofs.row.enter_all.Given as goal

abbrev pub invariant-loop-i : goal.invariant-loop-i
invariant-loop-i l = record { entered : (w : ℕ) → is_some (least_in (take l.i l.row) w) ≡ true → opener_of (slice_get l.row (place_of l.index w)) ≡ Some w }
