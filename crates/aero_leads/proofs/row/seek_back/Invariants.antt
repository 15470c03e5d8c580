use Rattle.std.proofs.Common.{◌≡◌, ℕ, ◌≤◌, ◌+◌, Some}
use Rattle.std.specs.Prelude.{slice_get}
use Rattle.aero_leads.specs.Indexed.{opener_of}
use Rattle.aero_leads.proofs.row.seek_back.Given as goal

abbrev pub invariant-loop-i : goal.invariant-loop-i
invariant-loop-i l = record { none : (j : ℕ) → l.count ≤ j + l.i → ¬ (opener_of (slice_get l.row j) ≡ Some l.w) }
