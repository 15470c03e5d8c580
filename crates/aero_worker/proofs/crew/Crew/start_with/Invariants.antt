use Rattle.std.proofs.Common.{◌≡◌, ◌+◌, ◌≤◌, [], All, vec_len, vec_capacity}
use Rattle.aero_stage.specs.Ends.{new_taker}
use Rattle.aero_worker.specs.Shifts.{Tells}
use Rattle.aero_worker.specs.Shifts.{lists_of}
use Rattle.aero_worker.proofs.crew.Crew.start_with.Given as goal

abbrev pub invariant-loop-seed : goal.invariant-loop-seed
invariant-loop-seed g l = record {
  seeds : All (λ s. s.taker ≡ new_taker l.staff.poster.stage) l.seeds.items;
  stage : All (λ h. h.promise.0.value.stage ≡ l.staff.poster.stage) l.staff.running.items;
  tells : Tells (lists_of l.staff.by_worker.items) l.staff.poster.desk.kept;
  takers : l.staff.poster.desk.takers ≡ vec_len l.staff.running + vec_len l.seeds;
  few : vec_len l.staff.running + vec_len l.staff.by_worker + vec_len l.seeds ≤ l.fn.n;
  handles : l.fn.n ≤ vec_capacity l.staff.running;
  lists : l.fn.n ≤ vec_capacity l.staff.by_worker;
  back : l.staff.poster.desk.back ≡ [];
  posted : l.staff.poster.desk.posted ≡ [];
  bound : l.staff.poster.desk.bound ≡ 0;
  stops : l.staff.poster.desk.stops ≡ 0;
  capacity : l.staff.poster.capacity ≡ 64;
}

abbrev pub decreases-loop-seed : goal.decreases-loop-seed
decreases-loop-seed g l = vec_len l.seeds
