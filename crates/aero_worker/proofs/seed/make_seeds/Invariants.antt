use Rattle.std.proofs.Common.{◌≡◌, ◌+◌, All, vec_len}
use Rattle.aero_stage.specs.Ends.{new_taker}
use Rattle.aero_worker.proofs.seed.make_seeds.Given as goal

abbrev pub invariant-loop-taker : goal.invariant-loop-taker
invariant-loop-taker g l = record {
  count : vec_len l.seeds + vec_len l.takers ≡ vec_len l.initial.takers;
  rest : All (λ t. t ≡ new_taker l.poster.stage) l.takers.items;
  made : All (λ s. s.taker ≡ new_taker l.poster.stage) l.seeds.items;
}

abbrev pub decreases-loop-taker : goal.decreases-loop-taker
decreases-loop-taker g l = vec_len l.takers
