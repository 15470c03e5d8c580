use Rattle.std.proofs.Common.{◌≡◌, ℕ, ◌+◌, ◌-◌, vec_len}
use Rattle.std.specs.Prelude.{slice_get}
use Rattle.aero_leads.specs.Kept.{AreSameThreads, thread_row}
use Rattle.aero_leads.proofs.thread.reach.Given as goal

abbrev pub invariant-loop-threads : goal.invariant-loop-threads
invariant-loop-threads l = record {
  same : AreSameThreads l.initial.threads.items l.threads.items;
  lists : (v : ℕ) → thread_row (slice_get l.threads.items v) ≡ thread_row (slice_get l.initial.threads.items v);
}

abbrev pub decreases-loop-threads : goal.decreases-loop-threads
decreases-loop-threads l = l.at + 1 - vec_len l.threads
