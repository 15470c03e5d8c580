use Rattle.std.proofs.Common.{◌∙◌, ap}
use Rattle.std.specs.List.{before_first}
use Rattle.aero_grammar.specs.Meaning.{is_bar, trimmed}
use Rattle.aero_faults.proofs.fields.operation_field.Goals as goal

pub returns : goal.returns
returns c = c.trimmed.ensures ∙ ap trimmed (c.split_at_byte-2.ensures.before ∙ ap (before_first is_bar) c.split_at_byte.ensures.after)
