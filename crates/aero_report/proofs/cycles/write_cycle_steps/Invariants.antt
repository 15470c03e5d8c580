use Rattle.std.proofs.Common.{◌≡◌, ◌++◌, take}
use Rattle.std.specs.Prelude.{flat_map}
use Rattle.json.specs.Tree.{json_tokens}
use Rattle.aero_report.specs.Json.{cycle_step_value}
use Rattle.aero_report.proofs.cycles.write_cycle_steps.Given as goal

-- those of the steps so far
abbrev pub invariant-loop-step : goal.invariant-loop-step
invariant-loop-step l = l.out ≡ l.initial.out ++ flat_map (λ s. json_tokens (cycle_step_value s)) (take l.step-index l.steps)
