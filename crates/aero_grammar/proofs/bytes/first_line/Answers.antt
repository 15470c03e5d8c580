use Rattle.std.proofs.Common.{◌+◌, ◌∷◌, sym, ◌∙◌, ap, ap₂}
use Rattle.std.specs.List.{list_any, position_or_len}
use Rattle.aero_model.specs.Lines.{is_line_end, lines_of}
use Rattle.aero_model.specs.Names.{is_bad_byte}
use Rattle.aero_grammar.specs.Meaning.{is_unfit}
use Rattle.aero_grammar.proofs.Clean.{clean_behind, clean_first}
use Rattle.aero_grammar.proofs.FirstPart.{after_shorter, first_part}
use Rattle.aero_grammar.proofs.bytes.first_line.Goals as goal

pub returns-clause-lines : goal.returns-clause-lines
returns-clause-lines c =
    first_part is_line_end c.args.text.now c.requires
    ∙ ap₂ (λ line behind. line ∷ lines_of behind) (sym c.split_at_byte.ensures.before) (sym c.split_at_byte.ensures.after)

pub returns-clause-shorter : goal.returns-clause-shorter
returns-clause-shorter c = after_shorter is_line_end c.args.text.now c.split_at_byte.result.1.now c.requires c.split_at_byte.ensures.after

pub returns-clause-good : goal.returns-clause-good
returns-clause-good c = λ fit. ap (list_any is_bad_byte) c.split_at_byte.ensures.before ∙ clean_first c.args.text.now fit

pub returns-clause-fit : goal.returns-clause-fit
returns-clause-fit c = λ fit.
    ap (list_any is_unfit) c.split_at_byte.ensures.after ∙ clean_behind c.args.text.now (position_or_len is_line_end c.args.text.now + 1) fit
