use Rattle.std.proofs.Common.{◌≡◌, ◌+◌, ◌-◌, ◌≤◌, All, vec_len, vec_capacity}
use Rattle.aero_worker.specs.Shifts.{Tells}
use Rattle.aero_worker.specs.Shifts.{lists_of}
use Rattle.aero_worker.proofs.crew.join_all.Given as goal

abbrev pub invariant-loop-handle : goal.invariant-loop-handle
invariant-loop-handle g l = record {
  stage : All (λ h. h.promise.0.value.stage ≡ l.poster.stage) l.running.items;
  room : vec_len l.by_worker + vec_len l.running ≤ vec_capacity l.by_worker;
  tells : Tells (lists_of l.by_worker.items) l.poster.desk.kept;
  count : vec_len l.by_worker + vec_len l.running ≡ vec_len l.initial.by_worker + vec_len l.initial.running;
  takers : l.poster.desk.takers ≡ l.initial.poster.desk.takers - (vec_len l.initial.running - vec_len l.running);
  fewer : vec_len l.running ≤ vec_len l.initial.running;
  rest : l.poster ≡ record l.initial.poster { desk = record l.initial.poster.desk { kept = l.poster.desk.kept; takers = l.poster.desk.takers } };
}

abbrev pub decreases-loop-handle : goal.decreases-loop-handle
decreases-loop-handle g l = vec_len l.running
