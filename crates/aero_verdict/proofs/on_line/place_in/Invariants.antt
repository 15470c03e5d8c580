use Rattle.std.proofs.Common.{◌≡◌, take, None}
use Rattle.std.specs.Prelude.{find}
use Rattle.aero_verdict.specs.Actors.{is_on}
use Rattle.aero_verdict.proofs.on_line.place_in.Given as goal

abbrev pub invariant-loop-place : goal.invariant-loop-place
invariant-loop-place l = find (is_on l.line) (take l.place l.part.events) ≡ None
