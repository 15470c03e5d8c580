use Rattle.std.proofs.Common.{◌∷◌, sym, ◌∙◌, ap₂}
use Rattle.aero_grammar.proofs.FirstPart.{after_shorter, first_part}
use Rattle.aero_program.specs.Listing.{is_name_end, names_in}
use Rattle.aero_program.proofs.listing.first_name.Goals as goal

pub returns-clause-names : goal.returns-clause-names
returns-clause-names c =
    first_part is_name_end c.args.list.now c.requires
    ∙ ap₂ (λ name behind. name ∷ names_in behind) (sym c.split_at_byte.ensures.before) (sym c.split_at_byte.ensures.after)

pub returns-clause-shorter : goal.returns-clause-shorter
returns-clause-shorter c = after_shorter is_name_end c.args.list.now c.split_at_byte.result.1.now c.requires c.split_at_byte.ensures.after
