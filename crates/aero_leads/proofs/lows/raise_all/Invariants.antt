use Rattle.std.proofs.Common.{ℕ, ◌≤◌, length}
use Rattle.std.specs.Prelude.{slice_get}
use Rattle.aero_leads.specs.Kept.{thread_row}
use Rattle.aero_leads.specs.Lows.{IsLow}
use Rattle.aero_leads.proofs.lows.raise_all.Given as goal

abbrev pub invariant-loop-i : goal.invariant-loop-i
invariant-loop-i l = record {
  kept : (o : ℕ) → IsLow l.threads l.initial.lows o → IsLow l.threads l.lows o;
  own : length (thread_row (slice_get l.threads l.w)) ≤ 32 → IsLow l.threads l.lows l.w;
}
