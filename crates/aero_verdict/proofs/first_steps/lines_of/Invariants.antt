use Rattle.std.proofs.Common.{◌≡◌, map, take}
use Rattle.aero_order.specs.declared.first.First.{First}
use Rattle.aero_verdict.proofs.first_steps.lines_of.Given as goal

abbrev pub invariant-loop-first : goal.invariant-loop-first
invariant-loop-first l = l.lines.items ≡ map (λ (f : First). f.line) (take l.first-index l.firsts)
