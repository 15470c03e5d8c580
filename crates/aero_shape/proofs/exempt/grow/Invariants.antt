use Rattle.std.proofs.Common.{◌≡◌, ◌≤◌, ℕ, ◌+◌, ◌-◌, take, vec_len}
use Rattle.aero_shape.specs.States.{around_at}
use Rattle.aero_shape.proofs.exempt.grow.Given as goal

abbrev pub invariant-loop-table : goal.invariant-loop-table
invariant-loop-table l = record { same : (k : ℕ) → around_at l.table.items k ≡ around_at l.initial.table.items k; front : take (vec_len l.initial.table) l.table.items ≡ l.initial.table.items; longer : vec_len l.initial.table ≤ vec_len l.table }

abbrev pub decreases-loop-table : goal.decreases-loop-table
decreases-loop-table l = l.thread + 1 - vec_len l.table
