use Rattle.std.proofs.Common.{◌∙◌, sym}
use Rattle.clap.proofs.WalkLemmas.{list_any-map}
use Rattle.aero_words.specs.Line.{is_dash}
use Rattle.aero_words.proofs.words.paths_of.Goals as goal

pub returns-clause-files : goal.returns-clause-files
returns-clause-files c = sym (list_any-map is_dash (λ text. text.now) c.args.texts.now) ∙ sym c.has_dash.ensures ∙ c.if-has_dash.false
