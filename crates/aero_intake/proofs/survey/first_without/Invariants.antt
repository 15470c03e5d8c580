use Rattle.std.proofs.Common.{◌≡◌, ◌-◌, ℕ, Bool, true, List, length, take}
use Rattle.std.specs.List.{list_all}
use Rattle.aero_intake.specs.Begun.{AreNoted}
use Rattle.aero_intake.proofs.survey.first_without.Given as goal

-- all labels so far begin a block
abbrev pub invariant-loop-place : goal.invariant-loop-place
invariant-loop-place l =
    (holds : List ℕ → Bool) → AreNoted l.except.labels holds l.begun.flags.items → list_all holds (take l.fn.place l.except.labels) ≡ true →
    list_all holds (take l.place l.except.labels) ≡ true

abbrev pub decreases-loop-place : goal.decreases-loop-place
decreases-loop-place l = length l.labels - l.place
