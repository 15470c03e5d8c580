use Rattle.std.proofs.Common.{◌≡◌, ℕ, ◌<◌, ◌≤◌}
use Rattle.std.specs.Prelude.{slice_get}
use Rattle.aero_access.specs.Led.{DropsLabel}
use Rattle.aero_access.proofs.index.drop_label.Given as goal

abbrev pub invariant-loop-led : goal.invariant-loop-led
invariant-loop-led l = record {
  dropped : (v : ℕ) → v < l.led-index → DropsLabel (slice_get l.initial.leds v) (slice_get l.leds v) l.place;
  others : (v : ℕ) → l.led-index ≤ v → slice_get l.leds v ≡ slice_get l.initial.leds v;
}
