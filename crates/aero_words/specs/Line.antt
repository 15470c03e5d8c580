-- The program's command line, and what its words ask for.
use Rattle.std.specs.Prelude.{◌≡◌, ◌<◌, ◌∷◌, ℕ, Bool, false, true, List, [], Option, Some, None, codes, if◌then◌else◌, length, map, option_and_then, option_map, pos, slice_get, string_bytes, unwrap_or, ◌^◌}
use Rattle.std.specs.List.{list_any}
use Rattle.std.specs.Str.{bytes_eq}
use Rattle.std.specs.Str.Parse.{digits_value, without_leading_plus}
use Rattle.clap.specs.Lexer.{usize_max}
use Rattle.clap.specs.Words.{App, Row, Rule, Text, all_of, first_of, matches_of, new_app, new_rule, one_of}
use Rattle.clap.specs.declared.builder.action.ArgAction.TheVariants.{Append, Set, SetTrue}
use Rattle.clap.specs.declared.builder.value_parser.ValueParser.TheVariants as vp
use Rattle.aero_report.specs.declared.form.Form.{Form}
use Rattle.aero_report.specs.declared.form.Form.TheVariants.{Json}
use Rattle.aero_report.specs.declared.form.Form.TheVariants as forms
use Rattle.aero_program.specs.declared.command.Config.{Config}
use Rattle.aero_program.specs.declared.command.Progress.{Progress}
use Rattle.aero_program.specs.declared.command.Progress.TheVariants.{Auto, Always, Never}
use Rattle.aero_program.specs.declared.command.Sources.{Sources}
use Rattle.aero_program.specs.declared.command.Sources.TheVariants as sources

-- an option with a number from 1 to `most`
abbrev pub number_rule : Text → ℕ → Text → Rule
number_rule name most default = record (new_rule name) {
  long = Some name;
  action = Some Set;
  value_names = 1;
  defaults = default ∷ [];
  parser = Some (vp.Signed (pos 1) (pos most));
}

-- labels, or files of labels, each by an option of its own
abbrev pub label_rule : Text → Rule
label_rule name = record (new_rule name) { long = Some name; action = Some Append; value_names = 1 }

-- an option with a text of its own
abbrev pub text_rule : Text → Rule
text_rule name = record (new_rule name) { long = Some name; action = Some Set; value_names = 1 }

-- an option with a text of its own, which has this one by default
abbrev pub default_rule : Text → Text → Rule
default_rule name default = record (text_rule name) { defaults = default ∷ [] }

-- a flag of this name
abbrev pub flag_rule : Text → Rule
flag_rule name = record (new_rule name) { long = Some name; action = Some SetTrue; parser = Some vp.Bool }

-- the files: any number of words that belong to no option
abbrev pub files_rule : Text → Rule
files_rule name = record (new_rule name) {
  action = Some Append;
  range = Some (record { start_inclusive = 0; end_inclusive = usize_max });
  value_names = 1;
}

-- a program of this name, whose words are the arguments alone, and which tells its version
abbrev pub no_rules : App
no_rules = record (new_app (codes "aerodrome")) {
  top = record (new_app (codes "aerodrome")).top { no_binary_name = true; has_version = true; has_long_version = true };
}

-- the program with these options
abbrev pub program_with : List Rule → App
program_with rules = record no_rules { top = record no_rules.top { rules = rules } }

-- the options, in the order of the help
abbrev pub rules : List Rule
rules =
    number_rule (codes "workers") 16 (codes "4")
    ∷ number_rule (codes "piece") (2 ^ 20) (codes "65536")
    ∷ label_rule (codes "except")
    ∷ label_rule (codes "only")
    ∷ label_rule (codes "except-from")
    ∷ label_rule (codes "only-from")
    ∷ flag_rule (codes "order")
    ∷ flag_rule (codes "explain")
    ∷ flag_rule (codes "long")
    ∷ flag_rule (codes "stop")
    ∷ flag_rule (codes "end")
    ∷ default_rule (codes "format") (codes "text")
    ∷ flag_rule (codes "progress")
    ∷ flag_rule (codes "quiet")
    ∷ text_rule (codes "files0-from")
    ∷ text_rule (codes "label")
    ∷ flag_rule (codes "fail-open")
    ∷ flag_rule (codes "fail-unchecked")
    ∷ files_rule (codes "files")
    ∷ []

abbrev pub program : App
program = program_with rules

-- what each option has of these words, its default included
abbrev pub rows_given : List Text → List Row
rows_given words = matches_of program words

-- the number that the text of an option says
abbrev pub number_told : ℕ → Option Text → ℕ
number_told fallback None = fallback
number_told fallback (Some text) = digits_value 10 (without_leading_plus text)

abbrev pub is_told : Option Text → Bool
is_told None = false
is_told (Some text) = bytes_eq text (codes "true")

-- when the line on progress is shown: not where quiet is asked for, else always where progress is, else by itself
abbrev pub progress_told : (quiet : Bool) → (progress : Bool) → Progress
progress_told true progress = Never
progress_told false true = Always
progress_told false false = Auto

-- the texts of an option, in the order of the words
abbrev pub texts_told : Option (List Text) → List Text
texts_told texts = unwrap_or texts []

-- the form of this name
abbrev pub form_of : Text → Option Form
form_of text = if bytes_eq text (codes "json") then Some Json else if bytes_eq text (codes "text") then Some forms.Text else None

-- that which the first text names
abbrev pub form_told : List Text → Option Form
form_told texts = option_and_then form_of (slice_get texts 0)

-- What is judged: standard input, whose name can be given, where no file is; else the files, or those of a list. No two of these are given together.
abbrev pub AreAskedFor : Sources → (files : List Text) → (list : Option Text) → (name : Option Text) → Type 0
AreAskedFor (sources.Standard own) files list name = (option_map string_bytes own ≡ name) × (files ≡ []) × (list ≡ None)
AreAskedFor (sources.Files words) files list name = (map string_bytes words.items ≡ files) × (0 < length files) × (list ≡ None) × (name ≡ None)
AreAskedFor (sources.Listed path) files list name = (Some (string_bytes path) ≡ list) × (files ≡ []) × (name ≡ None)

-- whether this file is standard input
abbrev pub is_dash : Text → Bool
is_dash path = bytes_eq path (codes "-")

-- the configuration is what the options have, and labels aren't read from standard input
pub record AsksFor (config : Config) (rows : List Row) : Type 0 where
  pub workers : config.workers ≡ number_told 4 (one_of (codes "workers") rows)
  pub piece : config.piece ≡ number_told 65536 (one_of (codes "piece") rows)
  pub except : config.except.items ≡ texts_told (all_of (codes "except") rows)
  pub only : config.only.items ≡ texts_told (all_of (codes "only") rows)
  pub except_from : map string_bytes config.except_from.items ≡ texts_told (all_of (codes "except-from") rows)
  pub only_from : map string_bytes config.only_from.items ≡ texts_told (all_of (codes "only-from") rows)
  pub except_files : list_any is_dash (texts_told (all_of (codes "except-from") rows)) ≡ false
  pub only_files : list_any is_dash (texts_told (all_of (codes "only-from") rows)) ≡ false
  pub order : config.order ≡ is_told (one_of (codes "order") rows)
  pub explain : config.explain ≡ is_told (one_of (codes "explain") rows)
  pub long : config.long ≡ is_told (one_of (codes "long") rows)
  pub stop : config.stop ≡ is_told (one_of (codes "stop") rows)
  pub end : config.end ≡ is_told (one_of (codes "end") rows)
  pub form : form_told (texts_told (all_of (codes "format") rows)) ≡ Some config.form
  pub progress : config.progress ≡ progress_told (is_told (one_of (codes "quiet") rows)) (is_told (one_of (codes "progress") rows))
  pub fail_open : config.fail_open ≡ is_told (one_of (codes "fail-open") rows)
  pub fail_unchecked : config.fail_unchecked ≡ is_told (one_of (codes "fail-unchecked") rows)
  pub sources : AreAskedFor config.files (texts_told (all_of (codes "files") rows)) (first_of (codes "files0-from") rows) (first_of (codes "label") rows)
