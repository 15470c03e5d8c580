use Rattle.std.proofs.Common.{◌≡◌, ℕ, ◌+◌, ◌-◌, vec_len}
use Rattle.std.specs.Prelude.{slice_get}
use Rattle.aero_leads.specs.Seen.{openers_in, whole_in}
use Rattle.aero_leads.proofs.seen.reach.Given as goal

abbrev pub invariant-loop-rows : goal.invariant-loop-rows
invariant-loop-rows l = record {
  same : (o : ℕ) → openers_in (slice_get l.rows.items o) ≡ openers_in (slice_get l.initial.rows.items o);
  whole : (o : ℕ) → whole_in (slice_get l.rows.items o) ≡ whole_in (slice_get l.initial.rows.items o);
}

abbrev pub decreases-loop-rows : goal.decreases-loop-rows
decreases-loop-rows l = l.at + 1 - vec_len l.rows
