use Rattle.std.proofs.Common.{◌∙◌, ap, codes, refl, sym}
use Rattle.clap.specs.Words.{found_of}
use Rattle.aero_words.specs.Line.{form_told}
use Rattle.aero_words.proofs.Told.{texts_read}
use Rattle.aero_words.proofs.words.form_in.Goals as goal

pub returns-in-Some : goal.returns-in-Some
returns-in-Some c =
    let read = texts_read (found_of c.args.matches.now) (codes "format") c.get_strs.result c.unwrap_or-texts.result _ c.get_strs.ensures c.unwrap_or-texts.ensures refl in
    sym (ap form_told read) ∙ (sym c.first_form.ensures ∙ c.in-Some.is)
