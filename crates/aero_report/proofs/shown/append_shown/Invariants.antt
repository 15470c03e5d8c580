use Rattle.std.proofs.Common.{◌≡◌, ◌++◌, length}
use Rattle.std.specs.Prelude.{flat_map}
use Rattle.aero_report.specs.Shown.{characters, shown_character}
use Rattle.aero_report.proofs.shown.append_shown.Given as goal

-- what is added so far, and the characters that are to be added yet
abbrev pub invariant-loop-rest : goal.invariant-loop-rest
invariant-loop-rest l = l.text.items ++ flat_map (shown_character l.ends_stay) (characters l.rest) ≡ l.initial.text.items ++ flat_map (shown_character l.ends_stay) (characters l.bytes)

abbrev pub decreases-loop-rest : goal.decreases-loop-rest
decreases-loop-rest l = length l.rest
