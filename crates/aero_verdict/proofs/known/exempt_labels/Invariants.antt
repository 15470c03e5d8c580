use Rattle.std.proofs.Common.{◌≡◌, take, map}
use Rattle.std.specs.Prelude.{Some}
use Rattle.aero_model.specs.Exempt.{leaves_out}
use Rattle.aero_verdict.proofs.known.exempt_labels.Given as goal

abbrev pub invariant-loop-n : goal.invariant-loop-n
invariant-loop-n l = l.exempt.items ≡ map (λ label. leaves_out l.except (Some label)) (take l.n l.labels)
