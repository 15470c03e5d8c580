use Rattle.std.proofs.Common.{◌≡◌, ◌∙◌, List, Option, codes, refl, subst}
use Rattle.std.proofs.lemmas.Result.{IfOk-weaker}
use Rattle.clap.specs.Words.{Text, found_of}
use Rattle.clap.proofs.WalkLemmas.{first_value-rows}
use Rattle.aero_program.specs.declared.command.Sources.{Sources}
use Rattle.aero_words.specs.Line.{AreAskedFor}
use Rattle.aero_words.proofs.Told.{texts_read}
use Rattle.aero_words.proofs.words.sources_in.Goals as goal

asked_as : (sources : Sources) (files given : List Text) (list path name own : Option Text) → files ≡ given → list ≡ path → name ≡ own
    → AreAskedFor sources files list name → AreAskedFor sources given path own
asked_as sources files given list path name own p q r asked =
    subst (λ (o : Option Text). AreAskedFor sources given path o) r
    (subst (λ (o : Option Text). AreAskedFor sources given o name) q
    (subst (λ (l : List Text). AreAskedFor sources l list name) p asked))

pub returns-clause-asked : goal.returns-clause-asked
returns-clause-asked c =
    let found = found_of c.args.matches.now in
    IfOk-weaker c.sources_asked.result _ _
    (λ sources asked. asked_as sources _ _ _ _ _ _
    (texts_read found (codes "files") c.get_strs.result c.unwrap_or-words.result _ c.get_strs.ensures c.unwrap_or-words.ensures refl)
    (c.get_str-list.ensures ∙ first_value-rows found (codes "files0-from"))
    (c.get_str-name.ensures ∙ first_value-rows found (codes "label")) asked)
    c.sources_asked.ensures.asked
