use Rattle.std.proofs.Common.{◌≡◌, false, subst, sym}
use Rattle.std.specs.List.{list_any}
use Rattle.aero_model.specs.Names.{is_bad_byte}
use Rattle.aero_grammar.proofs.Clean.{good_text}
use Rattle.aero_grammar.proofs.line.words_of.Goals as goal

pub is_bad_text-requires : goal.is_bad_text-requires
is_bad_text-requires c = λ clean.
    subst (λ t. list_any is_bad_byte t ≡ false) (sym c.without_return-text.ensures) (good_text c.args.line.now (c.requires clean))
