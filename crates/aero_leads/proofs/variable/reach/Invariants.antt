use Rattle.std.proofs.Common.{◌+◌, ◌-◌, ◌≡◌, ℕ, vec_len}
use Rattle.std.specs.Prelude.{slice_get}
use Rattle.aero_leads.specs.Kept.{variable_write, variable_reads, latest_read_in, other_reads_in}
use Rattle.aero_leads.proofs.variable.reach.Given as goal

abbrev pub invariant-loop-variables : goal.invariant-loop-variables
invariant-loop-variables l = record {
  writes : (y : ℕ) → variable_write (slice_get l.variables.items y) ≡ variable_write (slice_get l.initial.variables.items y);
  reads : (y : ℕ) → variable_reads (slice_get l.variables.items y) ≡ variable_reads (slice_get l.initial.variables.items y);
  latest : (y : ℕ) → latest_read_in (slice_get l.variables.items y) ≡ latest_read_in (slice_get l.initial.variables.items y);
  others : (y : ℕ) → other_reads_in (slice_get l.variables.items y) ≡ other_reads_in (slice_get l.initial.variables.items y);
}

abbrev pub decreases-loop-variables : goal.decreases-loop-variables
decreases-loop-variables l = l.at + 1 - vec_len l.variables
