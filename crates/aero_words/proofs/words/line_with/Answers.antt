use Rattle.std.proofs.Common.{◌≡◌, ◌∙◌, ◌++◌, ◌∷◌, ◌+◌, ◌<◌, ℕ, [], List, ap, ap₂, length, map, take, sym}
use Rattle.std.specs.List.{slice_index_or}
use Rattle.std.proofs.lemmas.List.{map-append, take_more}
use Rattle.clap.specs.Words.{with_rule}
use Rattle.aero_words.specs.declared.options.OptionRow.{OptionRow}
use Rattle.aero_words.specs.Line.{program_with}
use Rattle.aero_words.specs.Words.{rule_of_row}
use Rattle.aero_words.proofs.words.line_with.Goals as goal

one_more : (rows : List OptionRow) (i : ℕ) (d : OptionRow) → i < length rows
    → map rule_of_row (take (i + 1) rows) ≡ map rule_of_row (take i rows) ++ rule_of_row (slice_index_or rows i d) ∷ []
one_more rows i d lt = ap (λ l. map rule_of_row l) (take_more rows i d lt) ∙ map-append rule_of_row (take i rows) (slice_index_or rows i d ∷ [])

pub loop-row-preserved : goal.loop-row-preserved
loop-row-preserved c =
    c.in_ok-line.ensures.shape c.option_of.ensures.local ∙ ap₂ with_rule c.loop-row.invariant c.option_of.ensures.rule
    ∙ ap program_with (sym (one_more c.args.rows.now c.loop-row.row-index _ c.loop-row-test.true))
