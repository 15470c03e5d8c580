use Rattle.std.proofs.Common.{◌+◌, sym, ◌∙◌, arith}
use Rattle.std.proofs.lemmas.List.{take_rest}
use Rattle.aero_grammar.specs.Meaning.{is_bar}
use Rattle.aero_grammar.proofs.Places.{list_any_missing, list_any_found}
use Rattle.aero_grammar.proofs.Fields.{operation_field_at}
use Rattle.aero_grammar.proofs.bytes.fields.Goals as goal

pub returns-then-bar-text-clause-barred : goal.returns-then-bar-text-clause-barred
returns-then-bar-text-clause-barred c =
    sym (list_any_missing is_bar c.args.text.now (sym c.far_place_of-bar.ensures.place ∙ c.if-bar-text.true))

pub returns-clause-barred : goal.returns-clause-barred
returns-clause-barred c =
    sym (list_any_found is_bar c.args.text.now (omega (arith, c.far_place_of-bar.ensures.place, c.far_place_of-bar.ensures.within, c.if-bar-text.false)))

pub returns-clause-operation : goal.returns-clause-operation
returns-clause-operation c =
    c.trimmed.ensures ∙ operation_field_at c.args.text.now c.far_place_of-bar.result c.far_place_of-end.result _ c.far_place_of-bar.ensures.place (take_rest c.args.text.now (c.far_place_of-bar.result + 1)) c.far_place_of-end.ensures.place
