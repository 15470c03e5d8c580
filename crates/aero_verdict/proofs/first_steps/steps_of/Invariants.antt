use Rattle.std.proofs.Common.{◌≡◌, map, take}
use Rattle.aero_verdict.specs.InOrder.{step_in}
use Rattle.aero_verdict.proofs.first_steps.steps_of.Given as goal

abbrev pub invariant-loop-first : goal.invariant-loop-first
invariant-loop-first l = l.steps.items ≡ map (step_in l.numbering) (take l.first-index l.firsts)
