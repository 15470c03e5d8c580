-- The rule of each option, and what the reader of the command line knows of what is read of it.
use Rattle.std.specs.Prelude.{◌≡◌, Option, Some, option_and_then}
use Rattle.std.specs.List.{All, find}
use Rattle.std.specs.Str.{bytes_eq}
use Rattle.clap.specs.Words.{Accepts, Rule, Text, one_text, read_as, reading_of}
use Rattle.clap.specs.declared.builder.value_parser.ValueParser.{ValueParser}
use Rattle.clap.specs.declared.parser.matches.Found.{Found}
use Rattle.aero_words.specs.declared.options.Takes.{Takes}
use Rattle.aero_words.specs.declared.options.Takes.TheVariants.{Flag, Number, Each, Once, OnceOr, Rest}
use Rattle.aero_words.specs.declared.options.OptionRow.{OptionRow}
use Rattle.aero_words.specs.Line.{number_rule, label_rule, text_rule, default_rule, flag_rule, files_rule, rules}

-- the rule of an option of this name that takes this
abbrev pub rule_by : Text → Takes → Rule
rule_by name Flag = flag_rule name
rule_by name (Number most default) = number_rule name most default.now
rule_by name (Each value) = label_rule name
rule_by name (Once value) = text_rule name
rule_by name (OnceOr value default) = default_rule name default.now
rule_by name (Rest value) = files_rule name

abbrev pub rule_of_row : OptionRow → Rule
rule_of_row row = rule_by row.name.now row.takes

-- the parser of the option of this name
abbrev pub parser_named : Text → Option ValueParser
parser_named name = option_and_then (λ rule. rule.parser) (find (λ rule. bytes_eq rule.id name) rules)

-- what is read of the option of this rule passed its parser
abbrev pub ReadsBy : Found → Rule → Type 0
ReadsBy found rule =
    (parser : ValueParser) → rule.parser ≡ Some parser
    → (text : Text) → one_text found rule.id ≡ Some text
    → (word : Text) × (text ≡ read_as (reading_of parser) word) × Accepts rule.ignore_case parser word

-- what is read of each option passed its parser
abbrev pub IsRead : Found → Type 0
IsRead found = All (ReadsBy found) rules
