use Rattle.std.proofs.Common.{◌≡◌, Some, refl, sym, ◌∙◌, ap, length}
use Rattle.std.specs.Prelude.{slice_get}
use Rattle.std.proofs.lemmas.Bool.{ltb-true}
use Rattle.std.proofs.lemmas.Option.{slice_get_read}
use Rattle.aero_verdict.proofs.KnownNames.{known_number}
use Rattle.aero_verdict.proofs.known.number_known.Goals as goal

pub returns-in-Some-clause-ok : goal.returns-in-Some-clause-ok
returns-in-Some-clause-ok c =
    let here = c.in-Some.ensures.lookup in
    let numbers = c.deref.result.now in
    let at : slice_get numbers c.args.n ≡ Some c.in-Some.number.now =
    slice_get_read numbers (length numbers) c.args.n c.in-Some.number.now refl (ltb-true c.args.n (length numbers) (sym here.0)) here.1 in
    let same = ap (λ ns. slice_get ns c.args.n) c.deref.ensures.value in
    known_number c.args.names.now c.args.chunk.now c.args.known.now.items c.args.n c.in-Some.number.now c.requires (sym same ∙ at)
