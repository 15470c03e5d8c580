use Rattle.std.proofs.Common.{ℕ, Option}
use Rattle.aero_access.specs.declared.index.Led.{Led}
use Rattle.aero_access.specs.Led.{GainsThread}
use Rattle.aero_access.proofs.Visits.{Visits}
use Rattle.aero_access.proofs.index.gain_thread.Given as goal

abbrev pub invariant-loop-i : goal.invariant-loop-i
invariant-loop-i l = record {
  visits : Visits (λ (p : ℕ × ℕ) (old new : Option Led). GainsThread old new l.s p.1) l.pairs l.initial.leds l.leds l.i;
}
