use Rattle.std.proofs.Common.{◌∙◌, codes, refl}
use Rattle.clap.specs.Words.{found_of}
use Rattle.aero_words.proofs.Told.{texts_read}
use Rattle.aero_words.proofs.words.labels_in.Goals as goal

pub returns-clause-except : goal.returns-clause-except
returns-clause-except c =
    c.in_ok-labels_of.ensures.same
    ∙ texts_read (found_of c.args.matches.now) (codes "except") c.get_strs.result c.unwrap_or-except.result _ c.get_strs.ensures c.unwrap_or-except.ensures refl

pub returns-clause-only : goal.returns-clause-only
returns-clause-only c =
    c.in_ok-labels_of-2.ensures.same
    ∙ texts_read (found_of c.args.matches.now) (codes "only") c.get_strs-2.result c.unwrap_or-only.result _ c.get_strs-2.ensures c.unwrap_or-only.ensures refl
