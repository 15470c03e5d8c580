use Rattle.std.proofs.Common.{◌+◌, ◌-◌, ℕ, vec_len}
use Rattle.aero_access.specs.Led.{led_at, ListsSame}
use Rattle.aero_access.proofs.index.Index.reach.Given as goal

abbrev pub invariant-loop-self : goal.invariant-loop-self
invariant-loop-self l = (v : ℕ) → ListsSame (led_at l.initial.self v) (led_at l.self v)

abbrev pub decreases-loop-self : goal.decreases-loop-self
decreases-loop-self l = l.at + 1 - vec_len l.self.blocks
