use Rattle.std.proofs.Common.{◌∙◌, ap, refl, arith}
use Rattle.std.specs.Prelude.{Err}
use Rattle.std.proofs.lemmas.Bool.{le-leb}
use Rattle.aero_names.proofs.NewNames.{number_of_new}
use Rattle.aero_verdict.proofs.known.number_in.Goals as goal

pub returns-in-Err-Full-clause-err : goal.returns-in-Err-Full-clause-err
returns-in-Err-Full-clause-err c = λ not_memory.
    let full = (c.number_of_bytes.ensures.full).0 (c.in-Err-Full.is ∙ ap Err c.in-Err-Full.field-0-is) in
    let next = number_of_new c.args.names.now.names c.args.name.now full.0 in
    (refl, le-leb c.args.names.now.limit _ (omega (arith, next, full.1)))
