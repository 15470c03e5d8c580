use Rattle.std.proofs.Common.{ℕ, Option}
use Rattle.aero_clock.specs.Numbers.{number_at}
use Rattle.aero_access.specs.declared.index.Led.{Led}
use Rattle.aero_access.specs.Led.{GainsLabel}
use Rattle.aero_access.proofs.Visits.{Visits}
use Rattle.aero_access.proofs.index.gain_label.Given as goal

abbrev pub invariant-loop-i : goal.invariant-loop-i
invariant-loop-i l = record {
  visits : Visits (λ (p : ℕ × ℕ) (old new : Option Led). GainsLabel old new l.place (number_at l.was p.0) p.1) l.pairs l.initial.leds l.leds l.i;
}
