use Rattle.std.proofs.Common.{◌≡◌, [], ap, subst}
use Rattle.std.specs.Prelude.{unwrap_or}
use Rattle.aero_grammar.specs.Tabled.{name_at}
use Rattle.aero_verdict.specs.Naming.{NumbersName}
use Rattle.aero_verdict.proofs.KnownNames.{known_pushed}
use Rattle.aero_verdict.proofs.known.number_first.Goals as goal

pub returns-in-Ok-note-clause-known : goal.returns-in-Ok-note-clause-known
returns-in-Ok-note-clause-known c =
    let same : c.in-Some.name.now ≡ name_at c.args.chunk.now c.args.n = ap (λ o. unwrap_or o []) c.in-Some.ensures in
    let numbers = subst (λ name. NumbersName c.args.names.now c.number_in.new.names name c.in-Ok.number) same c.in-Ok.ensures.ok in
    known_pushed c.args.names.now c.number_in.new.names c.args.chunk.now c.args.known.now.items c.note.new.known.items c.args.n c.in-Ok.number numbers c.requires c.in-Ok-note.ensures
