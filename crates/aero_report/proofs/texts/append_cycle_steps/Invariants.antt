use Rattle.std.proofs.Common.{◌≡◌, ◌++◌, take}
use Rattle.std.specs.Prelude.{flat_map}
use Rattle.aero_report.specs.Texts.{cycle_line}
use Rattle.aero_report.proofs.texts.append_cycle_steps.Given as goal

-- the lines of the events so far
abbrev pub invariant-loop-step : goal.invariant-loop-step
invariant-loop-step l = l.text.items ≡ l.initial.text.items ++ flat_map cycle_line (take l.step-index l.steps)
