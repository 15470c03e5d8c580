use Rattle.std.proofs.Common.{◌∙◌, ap, codes, refl, sym}
use Rattle.std.specs.List.{list_any}
use Rattle.clap.specs.Words.{found_of}
use Rattle.aero_words.specs.Line.{is_dash}
use Rattle.aero_words.proofs.Told.{texts_read}
use Rattle.aero_words.proofs.words.label_files_in.Goals as goal

pub returns-clause-except : goal.returns-clause-except
returns-clause-except c =
    c.in_ok-paths_of.ensures.same
    ∙ texts_read (found_of c.args.matches.now) (codes "except-from") c.get_strs.result c.unwrap_or-except_from.result _ c.get_strs.ensures c.unwrap_or-except_from.ensures refl

pub returns-clause-only : goal.returns-clause-only
returns-clause-only c =
    c.in_ok-paths_of-2.ensures.same
    ∙ texts_read (found_of c.args.matches.now) (codes "only-from") c.get_strs-2.result c.unwrap_or-only_from.result _ c.get_strs-2.ensures c.unwrap_or-only_from.ensures refl

pub returns-clause-except_files : goal.returns-clause-except_files
returns-clause-except_files c =
    sym (ap (list_any is_dash) (texts_read (found_of c.args.matches.now) (codes "except-from") c.get_strs.result c.unwrap_or-except_from.result _ c.get_strs.ensures c.unwrap_or-except_from.ensures refl))
    ∙ c.in_ok-paths_of.ensures.files

pub returns-clause-only_files : goal.returns-clause-only_files
returns-clause-only_files c =
    sym (ap (list_any is_dash) (texts_read (found_of c.args.matches.now) (codes "only-from") c.get_strs-2.result c.unwrap_or-only_from.result _ c.get_strs-2.ensures c.unwrap_or-only_from.ensures refl))
    ∙ c.in_ok-paths_of-2.ensures.files
