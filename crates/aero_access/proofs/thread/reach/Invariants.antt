use Rattle.std.proofs.Common.{◌+◌, ◌-◌, ◌^◌, ◌≤◌, max, vec_len}
use Rattle.aero_access.specs.Threads.{AreSameThreads}
use Rattle.aero_access.proofs.thread.reach.Given as goal

abbrev pub invariant-loop-threads : goal.invariant-loop-threads
invariant-loop-threads l = record { same : AreSameThreads l.initial.threads.items l.threads.items; few : vec_len l.threads ≤ 2 ^ 32; grown : vec_len l.threads ≤ max (vec_len l.initial.threads) (l.at + 1); more : vec_len l.initial.threads ≤ vec_len l.threads }

abbrev pub decreases-loop-threads : goal.decreases-loop-threads
decreases-loop-threads l = l.at + 1 - vec_len l.threads
